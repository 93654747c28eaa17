mod Data
mod Canonical
