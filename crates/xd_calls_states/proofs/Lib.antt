mod NamedStates
mod StatesOfTypes
