-- What is found where tables that were handed back are put aside and the kept goals evaluated anew.
pub mod Balancing
