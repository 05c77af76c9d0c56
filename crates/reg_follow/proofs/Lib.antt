mod Coming
mod FirstLines
mod Taking
