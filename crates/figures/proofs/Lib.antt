mod Stored
mod Listed
mod Later
