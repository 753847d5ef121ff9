mod Stretches
mod StartBytes
