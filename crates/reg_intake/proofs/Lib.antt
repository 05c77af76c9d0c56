mod Cuts
mod Fronts
mod OneMore
