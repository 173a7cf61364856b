-- Wakers.
use Rattle.std.specs.Prelude.{◌≡◌}
use Rattle.std.specs.Arc.{arc_value}
use Rattle.crossterm_read.specs.declared.source.waker.Kind.{Kind}
use Rattle.crossterm_read.specs.declared.source.waker.Kind.TheVariants.{Nobody, Flag, Mio}
use Rattle.crossterm_read.specs.declared.source.waker.Waker.{Waker}

-- A kind of waker that can't fail: it wakes nobody, or raises a flag.
abbrev pub IsSureKind : Kind → Type 0
IsSureKind Nobody = Unit {0}
IsSureKind (Flag flag) = Unit {0}
IsSureKind (Mio waker) = ⊥

-- A waker that can't fail.
abbrev pub IsSure : Waker → Type 0
IsSure waker = IsSureKind waker.kind

-- Both wake the same: nobody, by one flag, or by one waker of mio.
abbrev pub AreOneKind : Kind → Kind → Type 0
AreOneKind Nobody Nobody = Unit {0}
AreOneKind (Flag flag) (Flag other) = arc_value flag ≡ arc_value other
AreOneKind (Mio waker) (Mio other) = arc_value waker ≡ arc_value other
AreOneKind Nobody (Flag flag) = ⊥
AreOneKind Nobody (Mio waker) = ⊥
AreOneKind (Flag flag) Nobody = ⊥
AreOneKind (Flag flag) (Mio waker) = ⊥
AreOneKind (Mio waker) Nobody = ⊥
AreOneKind (Mio waker) (Flag flag) = ⊥

-- Both wakers wake the same: nobody, by one flag, or by one waker of mio.
abbrev pub WakesAs : Waker → Waker → Type 0
WakesAs waker other = AreOneKind waker.kind other.kind
