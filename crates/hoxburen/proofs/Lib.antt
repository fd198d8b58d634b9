mod Looks
mod Opens
mod Owned
