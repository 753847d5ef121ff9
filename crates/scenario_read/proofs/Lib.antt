mod StartWalk
mod Painting
mod Rest
mod Copied
