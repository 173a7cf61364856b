use lib.Utf8.{encode}
use Rattle.std.proofs.Common.{◌≡◌, ◌∙◌, [], ◌∷◌, ℕ, List, Bor, length, take, ap, sym, subst, refl, arith}
use Rattle.std.proofs.lemmas.List.{length-map, take_all}
use Rattle.std.specs.Fmt.{HasWritten}
use Rattle.std.specs.List.{join_with_byte}
use Rattle.bitflags.specs.Sets.{Row}
use Rattle.std.proofs.lemmas.Grind.{put_two}
use Rattle.crossterm_flags.specs.Names.{names_in, shown_names}
use Rattle.crossterm_flags.proofs.NameFacts.{names-same, plus-after, text-more}
use Rattle.crossterm_flags.proofs.modifiers.KeyModifiersDisplay.fmt.Goals as goal
use Rattle.crossterm_flags.proofs.modifiers.KeyModifiersDisplay.fmt.Goals.{then-contains+in_ok-write, else-contains}

pub loop-flag-preserved : goal.loop-flag-preserved
unfolding encode
loop-flag-preserved g c = elim c.if-contains.branch [
  | then-contains+in_ok-write w ↦
      let is = sym c.contains.ensures ∙ w.if-contains.true in
      let plus : c.if-contains.separator.now ≡ 43 ∷ [] = ap (λ (s : Bor (List ℕ)). s.now) w.separator-is in (
        (43 ∷ [], (refl, sym plus)),
        plus ∙ sym (plus-after (λ flag. (flag.name.now, flag.value.0)) _ shown_names _ _ _ c.shown-flag-items.ensures c.loop-flag-test.true is),
        λ plain.
            let before = c.loop-flag.invariant.2 plain in
            let piece = w.in_ok-write.ensures.writes before.plain refl in
            let text = text-more (λ flag. (flag.name.now, flag.value.0)) _ shown_names _ _ _ c.shown-flag-items.ensures c.loop-flag-test.true _ c.loop-flag.invariant.1 is in
            rw (w.f-is) (put_two _ _ _ _ _ _ _ before piece text),
      )
  | else-contains w ↦
      let is = sym c.contains.ensures ∙ w.if-contains.false in
      let names = names-same (λ flag. (flag.name.now, flag.value.0)) _ shown_names _ _ _ c.shown-flag-items.ensures c.loop-flag-test.true is in
      rw (w.f-is, w.separator-is, names) c.loop-flag.invariant
]

pub returns-clause-writes : goal.returns-clause-writes
returns-clause-writes g c = λ plain ok.
    let size : length shown_names ≡ length c.shown-flag-items.result.now = ap length (sym c.shown-flag-items.ensures) ∙ length-map c.shown-flag-items.result.now (λ flag. (flag.name.now, flag.value.0)) in
    let all : take c.loop-flag.flag-index shown_names ≡ shown_names = take_all c.loop-flag.flag-index shown_names (omega (arith, size, c.loop-flag-test.false)) in
    subst (λ (rows : List Row). HasWritten g.W.Write.write_str_gives c.args.f.now (join_with_byte 43 (names_in rows c.args.self.now.0)) c.loop-flag.f) all (c.loop-flag.invariant.2 plain)
