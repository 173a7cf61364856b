mod Beginning
mod Ending
mod Sending
mod Shares
