-- What the public calls promise is said in the crate `promises`. Here is what the code hands back of it: Refused, the refusals and the numbers
-- and places of a call; Written, what the inner functions give, for those who read the code.
pub mod Refused
pub mod Written
