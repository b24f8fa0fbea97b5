mod ChMaj
mod HashValues
mod InLanes
