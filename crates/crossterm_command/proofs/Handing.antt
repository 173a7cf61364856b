-- What the walks of `queue` and `execute` share: a `Result` is taken apart, and a lender's last value follows. Assumes `Logic`.
use mathlib.Core.Path.{◌≡◌, refl, subst, subst⁻¹}
use mathlib.Core.Bool.{Bool, true, false, ◌&&◌}
use lib.Dec.{T}
use mathlib.Core.List.{List, [], ◌∷◌, ◌++◌}
use mathlib.Core.Option.{some, none}
use Prim.Native.Nat.{ℕ, zero, suc}
use seplogic.Ra.Ura.{Ura}
use mir.Syntax.{Body, Arms, skip, seq, assign, block, loop, cond, switch, exit, return, call, call_v, unreachable, lend_static, arm, default, no_default}
use mir.Val.{Val, of_list, has_ty, WT}
use base.Logic.{ent, emp, wand}
use base.Fml.{Fml, GName, fex, feq, fsep, fres, fauth}
use types.Logic.{Logic, sem}
use types.Kit.{Item, Goal, Seq, ‵, ◌$◌, ◌∵◌, !, qed, move, drop, use0, each, assume, fsplit, fjoin, fpick, fpack, feq_l, feq_i, done}
use types.Match.{live}
use denote.RattleType.{RattleType, Valss, owns}
use denote.Laws.{Is, shows, Typed}
use denote.Param.{layout}
use denote.Param.Laws.{Laws}
use denote.Param.Steps.{one_value}
use denote.Steps.{peeks, nothing}
use denote.Follow.{follows, follows_by, follows_so, such_by}
use denote.Builtin.{unit}
use denote.Enum.Row.{tagged_with}
use denote.Enum.Enum.{form_of, in_a_row}
use denote.Enum.Declared.{shape}
use denote.Signature.{Slot, plain}
use Rattle.std.specs.declared.result.Result.TheVariants.{Ok, Err}
use Rattle.std.specs.contracts.result.Result as RS

pub and_tt : (b : Bool) → T b → T (b && true)
and_tt true t = tt
and_tt false t = absurd t

abbrev pub slot_at : {n : ℕ} → ℕ → List (Slot n) → Slot n
slot_at k [] = plain (λ _. unit)
slot_at zero (s ∷ ss) = s
slot_at (suc k) (s ∷ ss) = slot_at k ss

-- the statements after the first n, the first statement, and the body of the k-th arm of a switch
abbrev parts : Body → Body × Body
parts skip = (skip, skip)
parts (seq x₀ x₁) = (x₀, x₁)
parts (assign x₀ x₁) = (skip, skip)
parts (block x₀) = (x₀, skip)
parts (loop x₀) = (x₀, skip)
parts (cond x₀ x₁ x₂) = (skip, skip)
parts (switch x₀ x₁) = (skip, skip)
parts (exit x₀) = (skip, skip)
parts return = (skip, skip)
parts (call x₀ x₁ x₂) = (skip, skip)
parts (call_v x₀ x₁ x₂ x₃) = (skip, skip)
parts unreachable = (skip, skip)
parts (lend_static x₀ x₁ x₂) = (skip, skip)

abbrev pub after : ℕ → Body → Body
after zero b = b
after (suc n) b = after n (parts b).1

abbrev pub head : Body → Body
head b = (parts b).0

abbrev arms_of : Body → Arms
arms_of skip = no_default
arms_of (seq x₀ x₁) = no_default
arms_of (assign x₀ x₁) = no_default
arms_of (block x₀) = no_default
arms_of (loop x₀) = no_default
arms_of (cond x₀ x₁ x₂) = no_default
arms_of (switch o rows) = rows
arms_of (exit x₀) = no_default
arms_of return = no_default
arms_of (call x₀ x₁ x₂) = no_default
arms_of (call_v x₀ x₁ x₂ x₃) = no_default
arms_of unreachable = no_default
arms_of (lend_static x₀ x₁ x₂) = no_default

abbrev nth_arm : Arms → ℕ → Body
nth_arm (arm ks b r) zero = b
nth_arm (arm ks b r) (suc k) = nth_arm r k
nth_arm (default b) zero = b
nth_arm (default b) (suc k) = b
nth_arm no_default zero = skip
nth_arm no_default (suc k) = skip

abbrev pub arm_body : ℕ → Body → Body
arm_body k b = nth_arm (arms_of b) k

module _ {M : Type 1} {𝓤 : Ura M} {𝓛 : Logic 𝓤} {K : Type 0} {Γ : List (Item 𝓤)} {G : Goal 𝓤 𝓛.H} (t : K) (R E : RattleType) where
  pub ok_apart : (x : R.Denot) (vs : List Val) → ((xs : List Val) → vs ≡ live 0 (of_list (xs ++ [])) ∷ [] → Seq K 𝓛 (‵ (R.own_val x xs) ∷ Γ) G) → Seq K 𝓛 (‵ ((RS.the_row R E).own_val (Ok x) vs) ∷ Γ) G
  ok_apart x vs k = fpick t (λ us. fsplit t $ feq_l t (λ e. fpick t (λ vss. fsplit t $ feq_l t (λ e'. fsplit t $ move t (1 ∷ []) $ drop t $
      k vss.0 (subst⁻¹ (λ (ws : List Val). vs ≡ live 0 (of_list ws) ∷ [] → vs ≡ live 0 (of_list (vss.0 ++ [])) ∷ []) e' (λ p. p) e)))))

  pub err_apart : (x : E.Denot) (vs : List Val) → ((xs : List Val) → vs ≡ live 1 (of_list (xs ++ [])) ∷ [] → Seq K 𝓛 (‵ (E.own_val x xs) ∷ Γ) G) → Seq K 𝓛 (‵ ((RS.the_row R E).own_val (Err x) vs) ∷ Γ) G
  err_apart x vs k = fpick t (λ us. fsplit t $ feq_l t (λ e. fpick t (λ vss. fsplit t $ feq_l t (λ e'. fsplit t $ move t (1 ∷ []) $ drop t $
      k vss.0 (subst⁻¹ (λ (ws : List Val). vs ≡ live 1 (of_list ws) ∷ [] → vs ≡ live 1 (of_list (vss.0 ++ [])) ∷ []) e' (λ p. p) e)))))

  -- whichever it is; an error is one machine value of its type
  pub either : Laws E → (r : (RS.the_row R E).Denot) (vs : List Val)
      → ((x : R.Denot) → r ≡ Ok x → (xs : List Val) → vs ≡ live 0 (of_list (xs ++ [])) ∷ [] → Seq K 𝓛 (‵ (R.own_val x xs) ∷ Γ) G)
      → ((x : E.Denot) → r ≡ Err x → (v : Val) → T (has_ty (layout E) v) × WT v → vs ≡ live 1 (of_list (v ∷ [])) ∷ [] → Seq K 𝓛 (‵ (E.own_val x (v ∷ [])) ∷ Γ) G)
      → Seq K 𝓛 (‵ ((RS.the_row R E).own_val r vs) ∷ Γ) G
  either L (Ok x) vs good bad = ok_apart x vs (good x refl)
  either L (Err x) vs good bad = err_apart x vs (λ xs e. peeks t E (Is E) (shows 𝓛 E) x xs (λ is.
      one_value (layout E) (λ ws. vs ≡ live 1 (of_list (ws ++ [])) ∷ [] → Seq K 𝓛 (‵ (E.own_val x ws) ∷ Γ) G) xs (subst (λ τs. Typed τs xs) L.one ((L.lawful 𝓛).typed x xs is)) (λ v ok. bad x refl v ok) e))

module _ {M : Type 1} {𝓤 : Ura M} (𝓛 : Logic 𝓤) (R : RattleType) where
  open 𝓛 use {A}

  -- a name follows itself
  follows_itself : (γ : GName) → ent 𝓤 (emp 𝓤) (sem 𝓛 (follows R R γ γ (λ w. w)))
  follows_itself γ =
      let From : R.Denot → R.Denot → Fml = λ z w. fsep (feq R.Denot z w) (fauth γ (R.coded.code w)) in
      let said = qed 𝓛 [] ∵ each ! (λ (w : R.Denot). wand 𝓤 (A.res γ (R.coded.code w)) (A.res γ (R.coded.code w))) (λ w. assume ! (‵ (fres γ (R.coded.code w))) $ done !) in
      let back = qed 𝓛 [] ∵ each ! (λ (z : R.Denot). wand 𝓤 (A.auth γ (R.coded.code z)) (sem 𝓛 (fex R.Denot (From z)))) (λ z. assume ! (‵ (fauth γ (R.coded.code z))) $
      feq_i ! R.Denot z z refl $ fjoin ! $ fpack ! R.Denot (From z) z $ done !) in
      record { apply = λ a p. (said.apply a p, back.apply a p) }

  abbrev Ways : (P : R.Denot → R.Denot → Type 0) (P₀ : R.Denot → Type 0) → Type 0
  Ways P P₀ = (s : (R.Denot → R.Denot) × R.Denot) × ((w : R.Denot) → P w (s.0 w)) × P₀ s.1

  -- The lender itself left: it ends as the last value under its own name.
  pub lends_itself : (γ : GName) (P : R.Denot → R.Denot → Type 0) (P₀ : R.Denot → Type 0) (y : R.Denot) → ((w : R.Denot) → P w w) → P₀ y → ent 𝓤 (emp 𝓤) (sem 𝓛 (follows_so R R γ (some γ) P P₀))
  unfolding such_by follows_by
  lends_itself γ P P₀ y p q =
      qed 𝓛 [] ∵ use0 𝓛 (‵ (follows R R γ γ (λ w. w))) (follows_itself γ) $
      fpack ! (Ways P P₀) (λ s. follows_by R.Denot R.Denot R.coded.code R.coded.code γ (some γ) s.0.0 s.0.1) (((λ w. w), y), p, q) $ done !

  -- Nothing left, and the lender rests at a value.
  pub rests_at : (γ : GName) (P : R.Denot → R.Denot → Type 0) (P₀ : R.Denot → Type 0) (y : R.Denot) → ((w : R.Denot) → P w w) → P₀ y → ent 𝓤 (A.res γ (R.coded.code y)) (sem 𝓛 (follows_so R R γ none P P₀))
  unfolding such_by follows_by
  rests_at γ P P₀ y p q =
      qed 𝓛 (‵ (fres γ (R.coded.code y)) ∷ []) ∵
      fpack ! (Ways P P₀) (λ s. follows_by R.Denot R.Denot R.coded.code R.coded.code γ none s.0.0 s.0.1) (((λ w. w), y), p, q) $ done !

module _ {M : Type 1} {𝓤 : Ura M} (𝓛 : Logic 𝓤) (R E : RattleType) where
  -- a `Result` of one machine value is made
  pub ok_made : (x : R.Denot) (v : Val) → ent 𝓤 (sem 𝓛 (R.own_val x (v ∷ []))) (sem 𝓛 ((RS.the_row R E).own_val (Ok x) (live 0 (of_list (v ∷ [])) ∷ [])))
  ok_made x v =
      qed 𝓛 (‵ (R.own_val x (v ∷ [])) ∷ []) ∵ nothing ! $ move ! (1 ∷ 0 ∷ []) $ fjoin ! $ feq_i ! (List Val) (v ∷ []) (v ∷ []) refl $ fjoin ! $
      fpack ! (Valss (R ∷ [])) (in_a_row (R ∷ []) (owns (R ∷ []) (x, tt)) (v ∷ [])) (v ∷ [], tt) $
      feq_i ! (List Val) (live 0 (of_list (v ∷ [])) ∷ []) (live 0 (of_list (v ∷ [])) ∷ []) refl $ fjoin ! $
      fpack ! (List Val) (tagged_with (form_of (shape (RS.the_type R E))) (form_of (shape (RS.the_type R E))).payload ((RS.the_type R E).to (Ok x)) (live 0 (of_list (v ∷ [])) ∷ [])) (v ∷ []) $ done !

  pub err_made : (x : E.Denot) (v : Val) → ent 𝓤 (sem 𝓛 (E.own_val x (v ∷ []))) (sem 𝓛 ((RS.the_row R E).own_val (Err x) (live 1 (of_list (v ∷ [])) ∷ [])))
  err_made x v =
      qed 𝓛 (‵ (E.own_val x (v ∷ [])) ∷ []) ∵ nothing ! $ move ! (1 ∷ 0 ∷ []) $ fjoin ! $ feq_i ! (List Val) (v ∷ []) (v ∷ []) refl $ fjoin ! $
      fpack ! (Valss (E ∷ [])) (in_a_row (E ∷ []) (owns (E ∷ []) (x, tt)) (v ∷ [])) (v ∷ [], tt) $
      feq_i ! (List Val) (live 1 (of_list (v ∷ [])) ∷ []) (live 1 (of_list (v ∷ [])) ∷ []) refl $ fjoin ! $
      fpack ! (List Val) (tagged_with (form_of (shape (RS.the_type R E))) (form_of (shape (RS.the_type R E))).payload ((RS.the_type R E).to (Err x)) (live 1 (of_list (v ∷ [])) ∷ [])) (v ∷ []) $ done !
