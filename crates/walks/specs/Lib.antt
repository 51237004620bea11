-- The walks of exported functions, one for each form and kinds of parameters, and in Behind what they ask of the types.
pub mod Behind
pub mod MutNn
pub mod MutNnnnnnnn
pub mod MutS
pub mod PartRVllll0
pub mod PartRVllllNnnnn
pub mod PartVlMmr
pub mod PartVlMns
pub mod PartVllllNsnn
pub mod Ref0
pub mod RefMr
pub mod RefNr
pub mod RefNrrr
pub mod RefR
pub mod RefRr
pub mod RefSsmr
