-- Claims.antt is the page; Meets.antt and One.antt have, function by function, that each meets its contract, and no second answer does;
-- Worked.antt and Printed.antt have computed instances.
pub mod Claims
pub mod Meets
pub mod One
pub mod Worked
pub mod Printed
