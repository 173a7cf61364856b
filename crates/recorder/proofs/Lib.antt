mod Acting
mod Cutting
mod Entering
mod ReadBack
mod Replayings
mod Stoppings
mod Tearing
mod Wording
