pub mod ClassLaws
pub mod FeedingLaws
pub mod HeldLaws
pub mod OutletLaws
pub mod PastingLaws
pub mod TextLaws
