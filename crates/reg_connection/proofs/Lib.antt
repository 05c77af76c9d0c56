mod Chosen
mod FirstLines
mod Gets
mod NoTexts
mod Sent
mod Takes
