mod Streams
mod Answering
mod Replays
mod Passing
mod Stops
mod Steps
mod Runs
