mod Bases
mod Prefixes
