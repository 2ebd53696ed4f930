mod Counting
mod Fetching
