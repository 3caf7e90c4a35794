pub mod RttFigures
pub mod FilterFigures
pub mod PacerFigures
pub mod Table
pub mod Computed
