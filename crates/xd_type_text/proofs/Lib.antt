mod Pieces
mod Labels
