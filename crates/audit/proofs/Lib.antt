mod Texts
mod Told
mod Checks
