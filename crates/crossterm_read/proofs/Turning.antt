-- One answer of a source.
use Rattle.std.proofs.Common.{◌≡◌, ◌≢◌, ◌≤◌, ◌-◌, ◌+◌, ◌==◌, nat_lt, inl, inr, ℕ, zero, suc, Bool, List, [], ◌∷◌, ◌++◌, length, take, drop, refl, ap, sym, subst, ◌∙◌, arith, length-drop, ◌<◌}
use Rattle.std.specs.List.{filter_map}
use Rattle.crossterm_parse.specs.declared.marked.Marked.{Marked}
use Rattle.crossterm_parse.specs.Marked.{marked}
use Rattle.crossterm_types.specs.Seen.{Seen}
use Rattle.crossterm_parse.specs.Division.{Divides}
use Rattle.crossterm_parse.specs.Grammar.{Whole}
use Rattle.crossterm_parse.specs.Meaning.{meaning_of}
use Rattle.crossterm_parse.specs.View.{ParserView, RepresentsSame, AdvancesOver, EndsNoEvent, OpensNoPaste, capacity}
use Rattle.crossterm_read.specs.Answers.{SourceAnswer, Gave, Failed}
use Rattle.std.specs.declared.io.ErrorKind.TheVariants.{OutOfMemory}
use Rattle.std.proofs.Math.Seq.{drop-nil}
use Rattle.std.proofs.lemmas.Bool.{cases_Bool}
use Rattle.std.proofs.lemmas.Bool.Decides.{nat_tests}
use Rattle.std.proofs.lemmas.List.{drop_all, drop-take, length-take-le, take-append-drop}
use Rattle.crossterm_parse.proofs.ViewLaws.{length-marked, marked_rest}
use Rattle.crossterm_read.specs.Device.{DeviceAnswer, Bytes, marked_bytes}
use Rattle.crossterm_read.specs.Outcomes.{IsAnsweredBy}
use Rattle.crossterm_read.specs.Sources.{Takes, GivesFirst, without_event, waited, again, fresh, other, Source, at, SourceDrawn, Hands}

module _ {D : Type 0} (answered : D → List DeviceAnswer → D → Type 0) where
  from_inside : (i s t : Source D) (xs : List SourceAnswer) → i ≡ s → SourceDrawn answered i xs t → SourceDrawn answered s xs t
  from_inside i s t xs e d = subst (λ (y : Source D). SourceDrawn answered y xs t) e d

  pub other_turn : (i s : Source D) (new : ParserView) (left : List Marked) (d : D) (w : DeviceAnswer) (x : SourceAnswer) → i ≡ s → i.parser.waiting ≡ [] → new.waiting ≡ [] → i.untaken ≡ [] → left ≡ []
      → RepresentsSame i.parser new → capacity new ≡ capacity i.parser → answered i.device (w ∷ []) d → IsAnsweredBy w x → SourceDrawn answered s (x ∷ []) (record { parser = new; untaken = left; device = d })
  other_turn i s new left d w x e ws wt us ut st r h a = from_inside i s (record { parser = new; untaken = left; device = d }) (x ∷ []) e (
    w ∷ [],
    h,
    λ before represents undecided.
        let room : new.room ≡ i.parser.room = let count = ap length wt in let last = ap length ws in
        omega (arith, r, count, last, length-drop i.parser.typed i.parser.waiting, length-drop new.typed new.waiting) in
        let same : at (record { parser = new; untaken = left; device = d }) before ≡ at i before = λ j. record { waiting = (wt ∙ sym ws) j; untaken = (ut ∙ sym us) j; undecided = before; room = room j } in
        (before, st before represents, undecided, (w ∷ [], [], at (record { parser = new; untaken = left; device = d }) before, refl, other w ws us refl a same, (refl, refl))),
  )

  pub waited_turn : ((s : D) → answered s [] s) → (i s : Source D) (new : ParserView) (left : List Marked) (d : D) (e : Seen) → i ≡ s → i.parser.waiting ≡ e ∷ new.waiting → left ≡ i.untaken
      → RepresentsSame i.parser new → d ≡ i.device → SourceDrawn answered s (Gave e ∷ []) (record { parser = new; untaken = left; device = d })
  waited_turn law i s new left d e p w u st h = from_inside i s (record { parser = new; untaken = left; device = d }) (Gave e ∷ []) p (
    [],
    subst (λ (x : D). answered i.device [] x) (sym h) (law i.device),
    λ before represents undecided. (
      before,
      st before represents,
      undecided,
      ([], [], at (record { parser = new; untaken = left; device = d }) before, refl, waited e w u refl refl refl, (refl, refl)),
    ),
  )

  pub again_turn : ((s : D) → answered s [] s) → (i s : Source D) (m : ParserView) (ml : List Marked) (md : D) (t : Source D) (x : SourceAnswer) → i ≡ s → i.parser.waiting ≡ [] → i.untaken ≢ [] → ml ≡ i.untaken
      → RepresentsSame i.parser m → t.device ≡ i.device → Hands (record { parser = m; untaken = ml; device = md }) x t → SourceDrawn answered s (x ∷ []) t
  again_turn law i s m ml md t x p w u mu st d h = from_inside i s t (x ∷ []) p (
    [],
    subst (λ (y : D). answered i.device [] y) (sym d) (law i.device),
    λ before represents undecided.
        let f = h before (st before represents) undecided in
        (f.0, f.2, f.3, ([], [], at t f.0, refl, again f.1 w u refl (subst (λ (l : List Marked). Takes before l f.1) mu f.4) f.5, (refl, refl))),
  )

  pub fresh_turn : (i s : Source D) (m : ParserView) (ml : List Marked) (md : D) (t : Source D) (bytes : List ℕ) (raw : Bool) (x : SourceAnswer) → i ≡ s → i.parser.waiting ≡ [] → i.untaken ≡ [] → bytes ≢ [] → ml ≡ marked_bytes bytes raw
      → RepresentsSame i.parser m → answered i.device (Bytes bytes raw ∷ []) t.device → Hands (record { parser = m; untaken = ml; device = md }) x t → SourceDrawn answered s (x ∷ []) t
  fresh_turn i s m ml md t bytes raw x p w u b mu st d h = from_inside i s t (x ∷ []) p (
    Bytes bytes raw ∷ [],
    d,
    λ before represents undecided.
        let f = h before (st before represents) undecided in
        (f.0, f.2, f.3, (Bytes bytes raw ∷ [], [], at t f.0, refl, fresh bytes raw f.1 w u b refl (subst (λ (l : List Marked). Takes before l f.1) mu f.4) f.5, (refl, refl))),
  )

-- the marks of a front and of what follows it
marked_split : (n : ℕ) (bytes : List ℕ) (more raw : Bool) → marked bytes more raw ≡ take n (marked bytes more raw) ++ marked (drop n bytes) more raw
marked_split n bytes more raw =
    let ms = marked bytes more raw in
    sym (take-append-drop n ms) ∙ ap (λ (l : List Marked). take n ms ++ l) (marked_rest bytes more raw n)

pub gives_some : (w new : List Seen) (left : List Marked) (e : Seen) (after : List Marked) (n : ℕ) → w ≡ e ∷ new
    → GivesFirst w (record { waiting = w; untaken = left; undecided = after; room = n }) (Gave e) (record { waiting = new; untaken = left; undecided = after; room = n })
gives_some w new left e after n h = subst
    (λ (l : List Seen). GivesFirst l (record { waiting = l; untaken = left; undecided = after; room = n }) (Gave e) (record { waiting = new; untaken = left; undecided = after; room = n }))
    (sym h) (refl, refl)

pub gives_none : (w new : List Seen) (left : List Marked) (x : SourceAnswer) (after : List Marked) (n : ℕ) → w ≡ [] → new ≡ [] → x ≡ without_event left
    → GivesFirst w (record { waiting = w; untaken = left; undecided = after; room = n }) x (record { waiting = new; untaken = left; undecided = after; room = n })
gives_none w new left x after n h i e = subst
    (λ (l : List Seen). GivesFirst l (record { waiting = l; untaken = left; undecided = after; room = n }) x (record { waiting = new; untaken = left; undecided = after; room = n }))
    (sym h) (e, λ j. record { waiting = i j; untaken = left; undecided = after; room = n })

-- nothing is left if as many were taken as there were
taken_whole : (n : ℕ) (rest : List ℕ) (more raw : Bool) → n ≡ length rest → marked (drop n rest) more raw ≡ []
taken_whole n rest more raw h = ap (λ (l : List ℕ). marked l more raw) (drop_all n rest (omega arith))

not_whole : (n : ℕ) (rest : List ℕ) (more raw : Bool) (left : List Marked) → n ≤ length rest → left ≡ marked (drop n rest) more raw → left ≢ [] → n < length rest
not_whole n rest more raw left h v some = elim (cases_Bool (nat_lt n (length rest))) [
  | inl less ↦ grind (arith, nat_tests)
  | inr not_less ↦ let whole : n ≡ length rest = grind (arith, nat_tests) in absurd (some (v ∙ taken_whole n rest more raw whole))
]

-- a front was taken, and then the first event given
pub hands_next : {D : Type 0} (i s : Source D) (m new : ParserView) (left : List Marked) (d : D) (n : ℕ) (rest : List ℕ) (more raw : Bool) (x : SourceAnswer) → i ≡ s
    → s.parser.waiting ≡ [] → i.untaken ≡ marked rest more raw → n ≤ length rest → left ≡ marked (drop n rest) more raw
    → AdvancesOver i.parser m (take n (marked rest more raw)) → (EndsNoEvent i.parser (marked rest more raw) → n ≡ length rest)
    → (n < length rest → ¬ EndsNoEvent m (take 1 (drop n (marked rest more raw)))) → (m.waiting ≡ [] → n < length rest → OpensNoPaste m (take 1 (drop n (marked rest more raw))) → new.room ≡ 0) → RepresentsSame m new
    → ((after : List Marked) → GivesFirst m.waiting (record { waiting = m.waiting; untaken = left; undecided = after; room = new.room }) x (record { waiting = new.waiting; untaken = left; undecided = after; room = new.room }))
    → Hands s x (record { parser = new; untaken = left; device = d })
hands_next {D} i s m new left d n rest more raw x e w u h v a whole ends full st gives =
    let done : Hands i x (record { parser = new; untaken = left; device = d }) = λ before represents undecided.
    let adv = a before represents undecided in (
      adv.rest,
      record { waiting = m.waiting; untaken = left; undecided = adv.rest; room = new.room },
      st adv.rest adv.represents,
      adv.division.undecided,
      record {
        taken = take n (marked rest more raw);
        parts = adv.parts;
        cut = u ∙ marked_split n rest more raw ∙ ap (λ (l : List Marked). take n (marked rest more raw) ++ l) (sym v);
        division = adv.division;
        waiting = adv.given ∙ ap (λ (l : List Seen). l ++ filter_map meaning_of adv.parts) (ap (λ (y : Source D). y.parser.waiting) e ∙ w);
        quiet = λ q. v ∙ taken_whole n rest more raw (whole (before, q.0, q.1, represents, undecided, subst (λ (l : List Marked). Divides Whole (before ++ l) q.0 q.1) u q.2, q.3, q.4));
        left = λ some q. ends (not_whole n rest more raw left h v some) (
          adv.rest,
          q.0,
          q.1,
          adv.represents,
          adv.division.undecided,
          subst (λ (l : List Marked). Divides Whole (adv.rest ++ take 1 l) q.0 q.1) (v ∙ sym (marked_rest rest more raw n)) q.2,
          q.3,
          q.4,
        );
        full = λ none some q. full none (not_whole n rest more raw left h v some) (
          adv.rest,
          q.0,
          q.1,
          adv.represents,
          adv.division.undecided,
          subst (λ (l : List Marked). Divides Whole (adv.rest ++ take 1 l) q.0 q.1) (v ∙ sym (marked_rest rest more raw n)) q.2,
          q.3,
          q.4,
        );
      },
      gives adv.rest,
    ) in
    subst (λ (y : Source D). Hands y x (record { parser = new; untaken = left; device = d })) e done

-- nothing is left of a buffer
pub none_left : (from end : ℕ) (buffer : List ℕ) (more raw : Bool) → from ≡ end → marked (take (end - from) (drop from buffer)) more raw ≡ []
none_left from end buffer more raw h = let e : end - from ≡ 0 = omega arith in ap (λ (n : ℕ). marked (take n (drop from buffer)) more raw) e

drop_drop : (n m : ℕ) (l : List ℕ) → drop (n + m) l ≡ drop m (drop n l)
drop_drop zero m l = ap (λ (k : ℕ). drop k l) (omega arith)
drop_drop (suc n) m [] = drop-nil (suc n + m) ∙ sym (drop-nil m)
drop_drop (suc n) m (b ∷ bs) = let e : suc n + m ≡ suc (n + m) = omega arith in ap (λ (k : ℕ). drop k (b ∷ bs)) e ∙ drop_drop n m bs

-- what is left of a buffer after some more
pub left_after : (from n end : ℕ) (buffer : List ℕ) → from + n ≤ end → take (end - (from + n)) (drop (from + n) buffer) ≡ drop n (take (end - from) (drop from buffer))
left_after from n end buffer h =
    let e : end - from ≡ n + (end - (from + n)) = omega arith in
    ap (λ (l : List ℕ). take (end - (from + n)) l) (drop_drop from n buffer) ∙ sym (drop-take n (end - (from + n)) (drop from buffer)) ∙ ap (λ (k : ℕ). drop n (take k (drop from buffer))) (sym e)

-- some are left of a buffer
pub some_left : (from end : ℕ) (buffer : List ℕ) (more raw : Bool) → from < end → end ≤ length buffer → marked (take (end - from) (drop from buffer)) more raw ≢ []
some_left from end buffer more raw h k e =
    let f = ap length e in
    let d = length-marked (take (end - from) (drop from buffer)) more raw in
    let t : length (take (end - from) (drop from buffer)) ≡ end - from = length-take-le (end - from) (drop from buffer) (omega (arith, length-drop from buffer)) in
    omega arith

pub without_some : (ms : List Marked) → ms ≢ [] → without_event ms ≡ Failed OutOfMemory
without_some [] h = absurd (h refl)
without_some (m ∷ ms) h = refl

-- a buffer that was just answered is answered whole
pub just_answered : (n : ℕ) (buffer : List ℕ) (raw : Bool) → n ≤ length buffer → marked (take (n - 0) buffer) (n == 1024) raw ≡ marked_bytes (take n buffer) raw
just_answered n buffer raw h =
    let e : n - 0 ≡ n = omega arith in
    ap (λ (k : ℕ). marked (take k buffer) (n == 1024) raw) e ∙ ap (λ (k : ℕ). marked (take n buffer) (k == 1024) raw) (sym (length-take-le n buffer h))

pub answered_some : (n : ℕ) (buffer : List ℕ) → n ≤ length buffer → n ≢ 0 → take n buffer ≢ []
answered_some n buffer h k e = let l = ap length e in let m = length-take-le n buffer h in k (omega arith)
