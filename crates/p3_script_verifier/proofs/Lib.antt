mod Following
mod Taking
