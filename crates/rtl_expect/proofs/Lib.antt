mod Order
mod Sorting
mod Seeing
mod Parts
mod Wanting
mod Said
mod Wholes
mod Coded
