mod Counts
mod Listing
mod Taking
