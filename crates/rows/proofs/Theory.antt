-- lists filled, and times written and counted
pub mod Lists
-- entries that become final, part after part
pub mod Entered
-- rows and columns of tiles
pub mod TileRows
