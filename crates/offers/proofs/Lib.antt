pub mod Offers
pub mod ThreeNumbers
