-- A set of attributes as contracts see it.
use Rattle.std.specs.Prelude.{ℕ}

-- The bits of a set of attributes.
pub record AttributeSet : Type 0 where
  pub 0 : ℕ
