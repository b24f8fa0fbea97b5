mod Blocks
mod Complements
