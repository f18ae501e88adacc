mod Seats
mod Single
mod Serving
