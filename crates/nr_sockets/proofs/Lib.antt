mod Heard
mod Numbered
mod Saying
mod Told
