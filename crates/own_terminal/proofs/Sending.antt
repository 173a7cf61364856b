-- A command's text on a writer, by way of a text in memory.
use Rattle.std.specs.Prelude.{◌≡◌, ℕ, List, Option, Some, None, Result, Ok, Err, IfSome, OnErr, OnOk}
use Rattle.std.proofs.Common.{subst}

-- What holds of these bytes holds of the command's text, if these are it.
holds_of_text : (text : Option (List ℕ)) (P : List ℕ → Type 0) (bs : List ℕ) → IfSome text (λ t. bs ≡ t) → P bs → IfSome text P
holds_of_text None P bs is p = tt
holds_of_text (Some t) P bs is p = subst P is p

pub sent_ok : {X E : Type 0} (r : Result X E) (text : Option (List ℕ)) (P : List ℕ → Type 0) (bs : List ℕ) → IfSome text (λ t. bs ≡ t) → OnOk r (P bs) → OnOk r (IfSome text P)
sent_ok (Ok x) text P bs is p = holds_of_text text P bs is p
sent_ok (Err e) text P bs is p = p

pub sent_err : {X E : Type 0} (r : Result X E) (text : Option (List ℕ)) (P : List ℕ → Type 0) (bs : List ℕ) → IfSome text (λ t. bs ≡ t) → OnErr r (P bs) → OnErr r (IfSome text P)
sent_err (Ok x) text P bs is p = p
sent_err (Err e) text P bs is p = holds_of_text text P bs is p
