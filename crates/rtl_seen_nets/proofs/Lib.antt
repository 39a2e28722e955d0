mod Lists
mod Hubs
mod Tables
