-- How a session begins, and the only element of a list.
use Rattle.std.specs.Prelude.{◌≡◌, ◌++◌, ◌∷◌, [], ℕ, All, List, length, map}
use Rattle.std.proofs.Common.{ap, arith, subst, sym, ◌∙◌}
use Rattle.std.proofs.lemmas.List.{length-map, length-append}
use Rattle.std.specs.Prelude.{Err, IfOk, Ok, Result}
use Rattle.std.specs.declared.io.Error.{Error}
use Rattle.crossterm_read.specs.History.{Known}
use Rattle.crossterm_read.specs.OverScripts.{IsNew}
use Rattle.crossterm_read.specs.Sources.{Source}
use Rattle.own_terminal.specs.Sessions.{BeginsAt, BeginsOver}

head_number : ℕ → List ℕ → ℕ
head_number d [] = d
head_number d (x ∷ xs) = x

-- A list with one number has the last element alone, and that has this number.
pub only_one : {X : Type 0} (f : X → ℕ) (items front : List X) (x : X) → items ≡ front ++ x ∷ [] → map f items ≡ 0 ∷ [] → (items ≡ x ∷ []) × (f x ≡ 0)
unfolding head_number
only_one f items [] x e n = (e, ap (head_number 1) (sym (ap (map f) e) ∙ n))
only_one {X} f items (y ∷ ys) x e n =
    let one : length (map f items) ≡ 1 = ap (λ (l : List ℕ). length l) n in
    let same = length-map items f in
    let all = ap (λ (l : List X). length l) e in
    let more = length-append ys (x ∷ []) in
    absurd (omega (arith, one, same, all, more))

-- What holds of all elements holds of the only one.
pub all_only : {X : Type 0} (P : X → Type 0) (items : List X) (x : X) → items ≡ x ∷ [] → All P items → P x
all_only P items x e all = subst (λ l. All P l) e all 0 x (omega arith)

-- A session over a new source begins over its device.
pub begins_over : {D X : Type 0} (f : X → Known (Source D)) (device : D) (source : Source D) → IsNew source → source.device ≡ device → (r : Result X Error) → IfOk r (λ s. BeginsAt source (f s)) → IfOk r (λ s. BeginsOver device (f s))
begins_over f device source new is (Ok s) b = (b.0, subst IsNew (sym b.1) new, ap (λ (s : Source _). s.device) b.1 ∙ is, b.2, b.3)
begins_over f device source new is (Err e) b = tt
