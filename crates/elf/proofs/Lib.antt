mod Covering
mod Table
