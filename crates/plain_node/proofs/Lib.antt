mod Deciding
mod Holding
