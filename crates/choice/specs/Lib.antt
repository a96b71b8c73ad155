-- What a reader must believe of a choice: Chosen, that its variable is not decided; Deciding, that there is one where a variable is left.
pub mod Chosen
pub mod Deciding
