mod Examples
mod Texts
