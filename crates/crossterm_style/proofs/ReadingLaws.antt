-- How fields are read as colours.
use Rattle.std.proofs.Common.{◌≡◌, ◌≢◌, ◌⊎◌, inl, inr, ℕ, ◌+◌, ◌<◌, List, [], ◌∷◌, Option, Some, None, arith, ap, refl, sym, ◌∙◌, subst, MatchOption}
use Rattle.crossterm_style.specs.declared.types.color.Color.{Color}
use Rattle.crossterm_style.specs.declared.types.color.Color.TheVariants.{Reset}
use Rattle.crossterm_style.specs.declared.types.colored.Colored.{Colored}
use Rattle.crossterm_style.specs.declared.types.colored.Colored.TheVariants.{ForegroundColor, BackgroundColor, UnderlineColor}
use Rattle.crossterm_style.specs.declared.types.sgr.SgrColor.{SgrColor}
use Rattle.crossterm_style.specs.declared.types.sgr.SgrColor.TheVariants.{Own, Indexed, Rgb}
use Rattle.crossterm_style.specs.Colors.{color_of}
use Rattle.crossterm_style.specs.Reading.{ReadsInk, ReadsColor, ReadsPlace, ReadsColored}
use Rattle.crossterm_style.specs.Fields.{AreParts, BeginsWith, BeginsWithNone, OneColor, OneColored, SetsPlace, SetsNone}
use Rattle.crossterm_style.proofs.FieldLaws.{SgrAfter, begins_once, sgr_after, sgr_form}

-- ---- a place and what follows its number

abbrev pub PlaceAfter : ℕ → ℕ → ℕ → List (List ℕ) → Color → Type 0
PlaceAfter set reset n rest c = ((n ≡ reset) × (rest ≡ []) × (c ≡ Reset)) ⊎ ((n ≡ set) × ReadsColor rest c)

abbrev pub ColoredAfter : ℕ → List (List ℕ) → Colored → Type 0
ColoredAfter n rest (ForegroundColor c) = PlaceAfter 38 39 n rest c
ColoredAfter n rest (BackgroundColor c) = PlaceAfter 48 49 n rest c
ColoredAfter n rest (UnderlineColor c) = PlaceAfter 58 59 n rest c

place_number : (set reset : ℕ) (fs : List (List ℕ)) (sgr : SgrColor) (c : Color) → ReadsPlace set reset fs sgr → c ≡ color_of sgr
    → (n : ℕ) × (rest : List (List ℕ)) × BeginsWith fs n rest × PlaceAfter set reset n rest c
place_number set reset fs Own c p e = (reset, [], p, inl (refl, refl, e))
place_number set reset fs (Indexed n) c p e = (set, p.1, (p.0, p.2, p.3), inr (refl, (Indexed n, p.4, e)))
place_number set reset fs (Rgb r g b) c p e = (set, p.1, (p.0, p.2, p.3), inr (refl, (Rgb r g b, p.4, e)))

pub colored_number : (fs : List (List ℕ)) (c : Colored) → ReadsColored fs c
    → (n : ℕ) × (rest : List (List ℕ)) × BeginsWith fs n rest × ColoredAfter n rest c
colored_number fs (ForegroundColor c) p = place_number 38 39 fs p.0 c p.1 p.2
colored_number fs (BackgroundColor c) p = place_number 48 49 fs p.0 c p.1 p.2
colored_number fs (UnderlineColor c) p = place_number 58 59 fs p.0 c p.1 p.2

pub colored_after : (fs rest : List (List ℕ)) (n : ℕ) (c : Colored) → BeginsWith fs n rest → ReadsColored fs c → ColoredAfter n rest c
colored_after fs rest n c first p =
    let q = colored_number fs c p in
    let same = begins_once fs q.0 n q.1 rest q.2 first in
    subst (λ l. ColoredAfter n l c) same.1 (subst (λ m. ColoredAfter m q.1 c) same.0 q.3)

begins_as : (fs rest : List (List ℕ)) (n m : ℕ) → n ≡ m → BeginsWith fs n rest → BeginsWith fs m rest
begins_as fs rest n m e first = subst (λ k. BeginsWith fs k rest) e first

place_by : (set reset : ℕ) (fs rest : List (List ℕ)) (n : ℕ) (c : Color) → BeginsWith fs n rest → PlaceAfter set reset n rest c
    → (sgr : SgrColor) × ReadsPlace set reset fs sgr × (c ≡ color_of sgr)
place_by set reset fs rest n c first (inl p) =
    let begins = begins_as fs rest n reset p.0 first in
    (Own, (begins.0, begins.1 ∙ ap (λ l. begins.0 ∷ l) p.1, begins.2), p.2)
place_by set reset fs rest n c first (inr (e, (Own, p, f))) = absurd p
place_by set reset fs rest n c first (inr (e, (Indexed k, p, f))) =
    let begins = begins_as fs rest n set e first in
    (Indexed k, (begins.0, rest, begins.1, begins.2, p), f)
place_by set reset fs rest n c first (inr (e, (Rgb r g b, p, f))) =
    let begins = begins_as fs rest n set e first in
    (Rgb r g b, (begins.0, rest, begins.1, begins.2, p), f)

pub colored_json : (fs rest : List (List ℕ)) (n : ℕ) (c : Colored) → BeginsWith fs n rest → ColoredAfter n rest c → ReadsColored fs c
colored_json fs rest n (ForegroundColor c) first p = place_by 38 39 fs rest n c first p
colored_json fs rest n (BackgroundColor c) first p = place_by 48 49 fs rest n c first p
colored_json fs rest n (UnderlineColor c) first p = place_by 58 59 fs rest n c first p

-- ---- SGR parameters, by what follows the number

-- An SGR colour has a field.
sgr_there : (fs : List (List ℕ)) (sgr : SgrColor) → ReadsInk fs sgr → fs ≡ [] → ⊥
sgr_there fs sgr p e =
    let q = sgr_form fs sgr p in
    let bad : fs ≡ q.2.0 ∷ q.1 = q.2.1 in cc

no_place_by_ink : (set reset n : ℕ) (rest : List (List ℕ)) (c : Color) → rest ≢ [] → ((sgr : SgrColor) → ReadsInk rest sgr → ⊥) → PlaceAfter set reset n rest c → ⊥
no_place_by_ink set reset n rest c more none (inl p) = more p.1
no_place_by_ink set reset n rest c more none (inr p) = none p.1.0 p.1.1

no_colored_by_ink : (n : ℕ) (rest : List (List ℕ)) → rest ≢ [] → ((sgr : SgrColor) → ReadsInk rest sgr → ⊥) → (c : Colored) → ColoredAfter n rest c → ⊥
no_colored_by_ink n rest more none (ForegroundColor c) p = no_place_by_ink 38 39 n rest c more none p
no_colored_by_ink n rest more none (BackgroundColor c) p = no_place_by_ink 48 49 n rest c more none p
no_colored_by_ink n rest more none (UnderlineColor c) p = no_place_by_ink 58 59 n rest c more none p

no_place_set : (set reset n : ℕ) (rest : List (List ℕ)) (c : Color) → rest ≢ [] → n ≢ set → PlaceAfter set reset n rest c → ⊥
no_place_set set reset n rest c more none (inl p) = more p.1
no_place_set set reset n rest c more none (inr p) = none p.0

no_colored_set : (n : ℕ) (rest : List (List ℕ)) → rest ≢ [] → SetsNone n → (c : Colored) → ColoredAfter n rest c → ⊥
no_colored_set n rest more none (ForegroundColor c) p = no_place_set 38 39 n rest c more none.0 p
no_colored_set n rest more none (BackgroundColor c) p = no_place_set 48 49 n rest c more none.1 p
no_colored_set n rest more none (UnderlineColor c) p = no_place_set 58 59 n rest c more none.2 p

sets_after : (n : ℕ) (rest : List (List ℕ)) (d : Color) (c : Colored) → ReadsColor rest d → SetsPlace n d c → ColoredAfter n rest c
sets_after n rest d (ForegroundColor c) r p = inr (p.0, subst (ReadsColor rest) (sym p.1) r)
sets_after n rest d (BackgroundColor c) r p = inr (p.0, subst (ReadsColor rest) (sym p.1) r)
sets_after n rest d (UnderlineColor c) r p = inr (p.0, subst (ReadsColor rest) (sym p.1) r)

-- ---- what the parser answers

pub answers_none : (fs : List (List ℕ)) → BeginsWithNone fs → (c : Colored) → ReadsColored fs c → ⊥
answers_none fs none c p =
    let q = colored_number fs c p in
    none q.0 q.1 q.2

pub answers_no_ink : (fs rest : List (List ℕ)) (n : ℕ) → BeginsWith fs n rest → rest ≢ [] → ((sgr : SgrColor) → ReadsInk rest sgr → ⊥) → (c : Colored) → ReadsColored fs c → ⊥
answers_no_ink fs rest n first more none c p = no_colored_by_ink n rest more none c (colored_after fs rest n c first p)

pub answers_set : (fs rest : List (List ℕ)) (n : ℕ) (sgr : SgrColor) (d : Color) (o : Option Colored) → BeginsWith fs n rest → ReadsInk rest sgr → d ≡ color_of sgr → MatchOption o (SetsNone n) (SetsPlace n d)
    → MatchOption o ((c : Colored) → ReadsColored fs c → ⊥) (ReadsColored fs)
answers_set fs rest n sgr d None first r e p = λ c q. no_colored_set n rest (sgr_there rest sgr r) p c (colored_after fs rest n c first q)
answers_set fs rest n sgr d (Some c) first r e p = colored_json fs rest n c first (sets_after n rest d c (sgr, r, e) p)

-- ---- one reading

parts_once : (fs : List (List ℕ)) (r g b r' g' b' : ℕ) → AreParts fs r g b → AreParts fs r' g' b' → (r ≡ r') × (g ≡ g') × (b ≡ b')
parts_once fs r g b r' g' b' p q =
    let first = begins_once fs r' r q.0 p.0 q.2 p.2 in
    let second = begins_once p.0 g' g q.1 p.1 (subst (λ l. BeginsWith l g' q.1) first.1 q.3) p.3 in
    let third = begins_once p.1 b' b [] [] (subst (λ l. BeginsWith l b' []) second.1 q.4) p.4 in
    (sym first.0, sym second.0, sym third.0)

sgr_after_once : (form : ℕ) (rest : List (List ℕ)) (i j : SgrColor) → SgrAfter form rest i → SgrAfter form rest j → i ≡ j
sgr_after_once form rest Own j p q = absurd p
sgr_after_once form rest (Indexed n) Own p q = absurd q
sgr_after_once form rest (Indexed n) (Indexed m) p q = ap Indexed (begins_once rest n m [] [] p.1 q.1).0
sgr_after_once form rest (Indexed n) (Rgb r g b) p q = absurd (omega (arith, p.0, q.0))
sgr_after_once form rest (Rgb r g b) Own p q = absurd q
sgr_after_once form rest (Rgb r g b) (Indexed n) p q = absurd (omega (arith, p.0, q.0))
sgr_after_once form rest (Rgb r g b) (Rgb r' g' b') p q = let same = parts_once rest r g b r' g' b' p.1 q.1 in cc

pub one_color : OneColor
one_color fs c d p q =
    let form = sgr_form fs p.0 p.1 in
    let same = sgr_after_once form.0 form.1 p.0 q.0 form.3 (sgr_after fs form.1 form.0 q.0 form.2 q.1) in
    p.2 ∙ ap color_of same ∙ sym q.2

place_once : (set reset n : ℕ) (rest : List (List ℕ)) (c d : Color) → set ≢ reset → PlaceAfter set reset n rest c → PlaceAfter set reset n rest d → c ≡ d
place_once set reset n rest c d apart (inl p) (inl q) = p.2 ∙ sym q.2
place_once set reset n rest c d apart (inl p) (inr q) = absurd (apart (sym q.0 ∙ p.0))
place_once set reset n rest c d apart (inr p) (inl q) = absurd (apart (sym p.0 ∙ q.0))
place_once set reset n rest c d apart (inr p) (inr q) = one_color rest c d p.1 q.1

-- Two places have no number in common.
places_apart : (set other n : ℕ) (rest : List (List ℕ)) (c d : Color) → set + 1 < other → PlaceAfter set (set + 1) n rest c → PlaceAfter other (other + 1) n rest d → ⊥
places_apart set other n rest c d below (inl p) (inl q) = omega (arith, p.0, q.0)
places_apart set other n rest c d below (inl p) (inr q) = omega (arith, p.0, q.0)
places_apart set other n rest c d below (inr p) (inl q) = omega (arith, p.0, q.0)
places_apart set other n rest c d below (inr p) (inr q) = omega (arith, p.0, q.0)

colored_once : (n : ℕ) (rest : List (List ℕ)) (c d : Colored) → ColoredAfter n rest c → ColoredAfter n rest d → c ≡ d
colored_once n rest (ForegroundColor c) (ForegroundColor d) p q = ap ForegroundColor (place_once 38 39 n rest c d (λ e. omega (arith, e)) p q)
colored_once n rest (ForegroundColor c) (BackgroundColor d) p q = absurd (places_apart 38 48 n rest c d (omega arith) p q)
colored_once n rest (ForegroundColor c) (UnderlineColor d) p q = absurd (places_apart 38 58 n rest c d (omega arith) p q)
colored_once n rest (BackgroundColor c) (ForegroundColor d) p q = absurd (places_apart 38 48 n rest d c (omega arith) q p)
colored_once n rest (BackgroundColor c) (BackgroundColor d) p q = ap BackgroundColor (place_once 48 49 n rest c d (λ e. omega (arith, e)) p q)
colored_once n rest (BackgroundColor c) (UnderlineColor d) p q = absurd (places_apart 48 58 n rest c d (omega arith) p q)
colored_once n rest (UnderlineColor c) (ForegroundColor d) p q = absurd (places_apart 38 58 n rest d c (omega arith) q p)
colored_once n rest (UnderlineColor c) (BackgroundColor d) p q = absurd (places_apart 48 58 n rest d c (omega arith) q p)
colored_once n rest (UnderlineColor c) (UnderlineColor d) p q = ap UnderlineColor (place_once 58 59 n rest c d (λ e. omega (arith, e)) p q)

pub one_colored : OneColored
one_colored fs c d p q =
    let number = colored_number fs c p in
    colored_once number.0 number.1 c d number.3 (colored_after fs number.1 number.0 d number.2 q)
