mod Hubs
mod Paths
