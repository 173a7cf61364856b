-- Plain numbers, and the sequences that they make.
use Rattle.std.proofs.Common.{◌≡◌, ◌≢◌, ◌==◌, ◌≤◌, ◌<◌, ℕ, zero, suc, ◌+◌, ◌-◌, ◌*◌, Bool, true, false, cond, List, [], ◌∷◌, ◌++◌, length, take, drop, slice_index, Option, nat_lt, refl, ap, sym, ◌∙◌, subst, arith, append_assoc}
use Rattle.std.specs.Prelude.{nat_le}
use Rattle.std.proofs.Math.Seq.{take-add}
use Rattle.std.proofs.lemmas.List.{drop_more, take_rest}
use Rattle.std.proofs.lemmas.Bool.{eqb-true}
use Rattle.std.proofs.lemmas.Bool.Decides.{nat_tests}
use Rattle.std.specs.List.{AllByRecursion}
use Rattle.crossterm_parse.specs.Bytes.{is_digit}
use Rattle.crossterm_parse.specs.Numbered.{numbered_by, sgr_by}
use Rattle.crossterm_parse.specs.Transitions.{Opens, empty_parameters, number_ends, opens_after, opens_with, parameters_after, readings_at, state_after, fields_after, number_after, Open, Whole, utf8_after}
use Rattle.crossterm_parse.specs.States.{is_paste}
use Rattle.crossterm_parse.specs.Recognizer.{is_final, is_mouse_end}
use Rattle.crossterm_parse.specs.inside.InFront.{AreNumbers, EndsFrom, IsNumber, in_first, in_kind, in_second, in_third, last_through, number_through, kept_of}
use Rattle.crossterm_parse.specs.declared.fields.Fields.{Fields}
use Rattle.crossterm_parse.specs.declared.meaning.Meaning.{Meaning}
use Rattle.crossterm_parse.specs.declared.number.Number.{Number}
use Rattle.crossterm_parse.specs.declared.number.Number.TheVariants.{Empty, Value}
use Rattle.crossterm_parse.specs.declared.numbered.Parameters.{Parameters}
use Rattle.crossterm_parse.specs.declared.paste.Opening.{Opening}
use Rattle.crossterm_parse.specs.declared.paste.Opening.TheVariants as opening
use Rattle.crossterm_parse.specs.declared.whole.WholeNumber.{WholeNumber}
use Rattle.crossterm_parse.specs.declared.whole.WholeSequence.{WholeSequence}
use Rattle.crossterm_parse.specs.declared.readings.Readings.{Readings}
use Rattle.crossterm_parse.specs.declared.state.State.{State}
use Rattle.crossterm_parse.specs.declared.state.State.TheVariants.{Csi, Numbered, Sgr}
use Rattle.crossterm_parse.specs.declared.utf8.Validity.{Validity}
use Rattle.crossterm_parse.specs.declared.utf8.Validity.TheVariants.{Sound}
use Rattle.crossterm_parse.proofs.RunLaws.{opens_join, opens_more}
use Rattle.crossterm_parse.proofs.TakingLaws.{rest_size}

-- ---- a number

abbrev pub Digits : List ℕ → Type 0
Digits bs = AllByRecursion (λ b. is_digit b ≡ true) bs

pub number_more : (bs : List ℕ) (n : Number) (b : ℕ) → number_through n (bs ++ b ∷ []) ≡ number_after (number_through n bs) b
number_more [] n b = refl
number_more (c ∷ bs) n b = number_more bs (number_after n c) b

pub digits_more : (bs : List ℕ) (b : ℕ) → Digits bs → is_digit b ≡ true → Digits (bs ++ b ∷ [])
digits_more [] b all digit = (digit, tt)
digits_more (c ∷ bs) b all digit = (all.0, digits_more bs b all.1 digit)

pub last_more : (bs : List ℕ) (l b : ℕ) → last_through l (bs ++ b ∷ []) ≡ b
last_more [] l b = refl
last_more (c ∷ bs) l b = last_more bs c b

-- a digit more
pub value_more : (bs : List ℕ) (b i v : ℕ) → is_digit b ≡ true → v < 100000 → (i ≡ 0 → (bs ≡ []) × (v ≡ 0)) → (0 < i → number_through Empty bs ≡ Value v)
    → number_through Empty (bs ++ b ∷ []) ≡ Value (v * 10 + (b - 48))
value_more bs b zero v digit small none some =
    let sign : b == 43 ≡ false = grind (arith, nat_tests) in
    let same : b - 48 ≡ v * 10 + (b - 48) = omega (arith, (none refl).1) in
    ap (λ (cs : List ℕ). number_through Empty (cs ++ b ∷ [])) (none refl).0 ∙ rw (sign, digit) (ap (λ (n : ℕ). Value n) same)
value_more bs b (suc i) v digit small none some =
    let high : b ≤ 57 = grind (arith, nat_tests) in
    let most : v * 10 + (b - 48) ≤ 4294967295 = omega (arith, small, high) in
    let fits : nat_le (v * 10 + (b - 48)) 4294967295 ≡ true = grind (arith, nat_tests) in
    number_more bs Empty b ∙ ap (λ (n : Number). number_after n b) (some (omega arith)) ∙ rw (digit, fits) refl

-- the last byte of a number doesn't hang on what was before it
last_any : (bs : List ℕ) (l v : ℕ) → number_through Empty bs ≡ Value v → last_through l bs ≡ last_through 0 bs
last_any [] l v value = cc
last_any (b ∷ bs) l v value = refl

-- ---- the place of a number

-- digits there are read into it
abbrev pub ReadsDigits : (Number → Fields) → Type 0
ReadsDigits at = (n : Number) (b : ℕ) → is_digit b ≡ true → fields_after (at n) b ≡ at (number_after n b)

apart : (b : ℕ) → is_digit b ≡ true → (b == 59 ≡ false) × (b == 58 ≡ false) × (nat_lt b 128 ≡ true) × (48 ≤ b) × (b ≤ 57)
apart b digit = (grind (arith, nat_tests), grind (arith, nat_tests), grind (arith, nat_tests), grind (arith, nat_tests), grind (arith, nat_tests))

pub reads_first : ReadsDigits in_first
reads_first n b digit = let a = apart b digit in rw (a.0, a.1) refl

pub reads_second : (f : ℕ) → ReadsDigits (in_second f)
reads_second f n b digit = let a = apart b digit in rw (a.0, a.1) refl

pub reads_kind : (f m : ℕ) → ReadsDigits (in_kind f m)
reads_kind f m n b digit = let a = apart b digit in rw (a.0, a.1) refl

pub reads_third : (f s : ℕ) → ReadsDigits (in_third f s)
reads_third f s n b digit = let a = apart b digit in rw a.0 refl

digit_after : (at : Number → Fields) → ReadsDigits at → (n : Number) (l b : ℕ) → is_digit b ≡ true → parameters_after (kept_of (at n) l) b ≡ kept_of (at (number_after n b)) b
digit_after at reads n l b digit =
    let a = apart b digit in
    let sound : utf8_after Sound b ≡ Sound = rw a.2 refl in
    ap (λ (f : Fields). record { fields = f; last = b; validity = utf8_after Sound b }) (reads n b digit)
    ∙ ap (λ (v : Validity). record { fields = at (number_after n b); last = b; validity = v }) sound

-- ---- numbers one after another

-- A sequence that goes on with digits, `:` and `;`.
abbrev pub GoesOn : (Parameters → State) → Type 0
GoesOn state = (p : Parameters) (b : ℕ) → 48 ≤ b → b ≤ 59 → ((raw pause : Bool) → state_after (state p) b raw pause ≡ Open (state (parameters_after p b))) × (is_paste (state p) ≡ false)

abbrev pub opened : Parameters → State
opened p = Numbered p opening.Not

pub report_goes_on : GoesOn Sgr
report_goes_on p b low high = let on : is_mouse_end b ≡ false = grind (arith, nat_tests) in ((λ raw pause. rw on refl), refl)

pub number_goes_on : GoesOn opened
number_goes_on p b low high = let on : is_final b ≡ false = grind (arith, nat_tests) in ((λ raw pause. rw on refl), refl)

-- more digits of a number
digits_open : (state : Parameters → State) → GoesOn state → (at : Number → Fields) → ReadsDigits at → (bs : List ℕ) (n : Number) (l : ℕ) → Digits bs
    → Opens (state (kept_of (at n) l)) (state (kept_of (at (number_through n bs)) (last_through l bs))) bs
digits_open state on at reads [] n l all = refl
digits_open state on at reads (b ∷ bs) n l all =
    let a = apart b all.0 in (
      state (kept_of (at (number_after n b)) b),
      (λ raw pause. (on (kept_of (at n) l) b a.3 (omega (arith, a.4))).0 raw pause ∙ ap (λ (p : Parameters). Open (state p)) (digit_after at reads n l b all.0)),
      (on (kept_of (at (number_after n b)) b) 48 (omega arith) (omega arith)).1,
      digits_open state on at reads bs (number_after n b) b all.1,
    )

-- a number whole
number_open : (state : Parameters → State) → GoesOn state → (at : Number → Fields) → ReadsDigits at → (bs : List ℕ) (n : WholeNumber) (l : ℕ) → (i : IsNumber bs n)
    → Opens (state (kept_of (at Empty) l)) (state (kept_of (at (Value n.value)) n.digit)) i.text
number_open state on at reads bs n l i =
    let value = i.value in
    let last : last_through l i.text ≡ n.digit = last_any i.text l n.value i.value ∙ i.last in
    subst (λ (d : ℕ). Opens (state (kept_of (at Empty) l)) (state (kept_of (at (Value n.value)) d)) i.text) last
    (subst (λ (m : Number). Opens (state (kept_of (at Empty) l)) (state (kept_of (at m) (last_through l i.text))) i.text) value (digits_open state on at reads i.text Empty l i.digits))

-- a number, and `;` or `:` behind it
pub number_opens : (state : Parameters → State) → GoesOn state → (at : Number → Fields) → ReadsDigits at → (bs : List ℕ) (n : WholeNumber) (l e : ℕ) (next : Fields) → IsNumber bs n
    → n.end ≡ e → 48 ≤ e → e ≤ 59 → parameters_after (kept_of (at (Value n.value)) n.digit) e ≡ kept_of next e
    → Opens (state (kept_of (at Empty) l)) (state (kept_of next e)) (take n.count bs)
number_opens state on at reads bs n l e next i end low high after =
    let is : take n.count bs ≡ i.text ++ e ∷ [] = i.is ∙ ap (λ (b : ℕ). i.text ++ b ∷ []) end in
    let goes = on (kept_of (at (Value n.value)) n.digit) e low high in
    subst (Opens (state (kept_of (at Empty) l)) (state (kept_of next e))) (sym is)
    (opens_more (state (kept_of (at Empty) l)) (state (kept_of (at (Value n.value)) n.digit)) (state (kept_of next e)) i.text e
    (number_open state on at reads bs n l i) (λ raw pause. goes.0 raw pause ∙ ap (λ (p : Parameters). Open (state p)) after) (on (kept_of next e) 48 (omega arith) (omega arith)).1)

-- a number with which the sequence is whole
pub number_ends_it : (state : Parameters → State) → GoesOn state → (at : Number → Fields) → ReadsDigits at → (bs : List ℕ) (n : WholeNumber) (l : ℕ) (raw : Bool) (m : Option Meaning) → IsNumber bs n
    → ((pause : Bool) → state_after (state (kept_of (at (Value n.value)) n.digit)) n.end raw pause ≡ Whole m)
    → EndsFrom (state (kept_of (at Empty) l)) bs raw (record { meaning = m; count = n.count })
number_ends_it state on at reads bs n l raw m i whole = record {
  within = i.within;
  state = state (kept_of (at (Value n.value)) n.digit);
  text = i.text;
  last = n.end;
  is = i.is;
  opens = number_open state on at reads bs n l i;
  whole = whole;
}

-- more bytes before some
joined : (bs : List ℕ) (i n : ℕ) (text : List ℕ) (e : ℕ) → i ≤ length bs → n ≤ length (take (length bs - i) (drop i bs)) → take n (take (length bs - i) (drop i bs)) ≡ text ++ e ∷ []
    → (i + n ≤ length bs) × (take (i + n) bs ≡ (take i bs ++ text) ++ e ∷ [])
joined bs i n text e within rest is = (
  omega (arith, within, rest_size bs i, rest),
  take-add i n bs ∙ ap (λ (cs : List ℕ). take i bs ++ take n cs) (sym (take_rest bs i)) ∙ ap (λ (cs : List ℕ). take i bs ++ cs) is ∙ sym (append_assoc (take i bs) text (e ∷ [])),
)

pub ends_after : (s t : State) (bs : List ℕ) (i : ℕ) (raw : Bool) (it : WholeSequence) → i ≤ length bs → Opens s t (take i bs) → EndsFrom t (take (length bs - i) (drop i bs)) raw it
    → EndsFrom s bs raw (record { meaning = it.meaning; count = i + it.count })
ends_after s t bs i raw it within opens ends =
    let front = joined bs i it.count ends.text ends.last within ends.within ends.is in
    record {
      within = front.0;
      state = ends.state;
      text = take i bs ++ ends.text;
      last = ends.last;
      is = front.1;
      opens = opens_join (take i bs) ends.text s t ends.state opens ends.opens;
      whole = ends.whole;
    }

first_byte : (bs : List ℕ) → 0 < length bs → take 1 bs ≡ slice_index bs 0 ∷ []
first_byte bs some = ap (λ (cs : List ℕ). take 1 cs) (drop_more bs 0 0 some)

pub ends_behind : (s t : State) (bs : List ℕ) (raw : Bool) (it : WholeSequence) → 0 < length bs
    → ((raw pause : Bool) → state_after s (slice_index bs 0) raw pause ≡ Open t) → is_paste t ≡ false → EndsFrom t (take (length bs - 1) (drop 1 bs)) raw it
    → EndsFrom s bs raw (record { meaning = it.meaning; count = 1 + it.count })
ends_behind s t bs raw it some opens outside ends =
    ends_after s t bs 1 raw it (omega (arith, some)) (subst (Opens s t) (sym (first_byte bs some)) (t, opens, outside, refl)) ends

-- a byte alone
pub ends_at_once : (s : State) (bs : List ℕ) (raw : Bool) (m : Option Meaning) → 0 < length bs → ((pause : Bool) → state_after s (slice_index bs 0) raw pause ≡ Whole m)
    → EndsFrom s bs raw (record { meaning = m; count = 1 })
ends_at_once s bs raw m some whole = record { within = omega (arith, some); state = s; text = []; last = slice_index bs 0; is = first_byte bs some; opens = refl; whole = whole }

pub report_whole : (p : Parameters) (e : ℕ) (m : Option Meaning) → is_mouse_end e ≡ true → m ≡ sgr_by e (readings_at p) → (raw pause : Bool) → state_after (Sgr p) e raw pause ≡ Whole m
report_whole p e m ends means raw pause = rw ends (ap (λ (x : Option Meaning). Whole x) (sym means))

-- ---- a numbered sequence from `ESC [` on

number_ends_whole : (o : Opening) (p : Parameters) (raw : Bool) (e : ℕ) → o ≢ opening.Zeros → number_ends o p raw e ≡ Whole (numbered_by raw e (readings_at p))
number_ends_whole opening.Two p raw e apart = refl
number_ends_whole opening.Zero p raw e apart = refl
number_ends_whole opening.Zeros p raw e apart = absurd (apart refl)
number_ends_whole opening.Not p raw e apart = refl

pub number_whole : (p : Parameters) (o : Opening) (raw : Bool) (e : ℕ) (m : Option Meaning) → is_final e ≡ true → o ≢ opening.Zeros → m ≡ numbered_by raw e (readings_at p)
    → (pause : Bool) → state_after (Numbered p o) e raw pause ≡ Whole m
number_whole p o raw e m ends apart means pause = rw ends (number_ends_whole o p raw e apart ∙ ap (λ (x : Option Meaning). Whole x) (sym means))

-- how far a paste is opened by more bytes
abbrev opens_through : Opening → List ℕ → Opening
opens_through o [] = o
opens_through o (b ∷ bs) = opens_through (opens_after o b) bs

opens_none : (bs : List ℕ) → opens_through opening.Not bs ≡ opening.Not
opens_none [] = refl
opens_none (b ∷ bs) = opens_none bs

after_zeros : (bs : List ℕ) → opens_through opening.Zeros bs ≡ opening.Zeros → bs ≡ []
after_zeros [] is = refl
after_zeros (b ∷ bs) is = let none = opens_none bs in cc

after_zero : (bs : List ℕ) → opens_through opening.Zero bs ≡ opening.Zeros → bs ≡ 48 ∷ []
after_zero [] is = cc
after_zero (b ∷ bs) is = go (b == 48) refl is where
  go : (t : Bool) → (b == 48) ≡ t → opens_through (cond t opening.Zeros opening.Not) bs ≡ opening.Zeros → b ∷ bs ≡ 48 ∷ []
  go true t is = let same : b ≡ 48 = eqb-true b 48 t in let rest = after_zeros bs is in cc
  go false t is = let none = opens_none bs in cc

after_two : (bs : List ℕ) → opens_through opening.Two bs ≡ opening.Zeros → bs ≡ 48 ∷ 48 ∷ []
after_two [] is = cc
after_two (b ∷ bs) is = go (b == 48) refl is where
  go : (t : Bool) → (b == 48) ≡ t → opens_through (cond t opening.Zero opening.Not) bs ≡ opening.Zeros → b ∷ bs ≡ 48 ∷ 48 ∷ []
  go true t is = let same : b ≡ 48 = eqb-true b 48 t in let rest = after_zero bs is in cc
  go false t is = let none = opens_none bs in cc

-- what opens a paste is 200
opens_200 : (b : ℕ) (bs : List ℕ) (v : ℕ) → opens_through (opens_with b) bs ≡ opening.Zeros → number_through Empty (b ∷ bs) ≡ Value v → v ≡ 200
opens_200 b bs v is value = go (b == 50) refl is where
  go : (t : Bool) → (b == 50) ≡ t → opens_through (cond t opening.Two opening.Not) bs ≡ opening.Zeros → v ≡ 200
  go true t is =
      let same : b ≡ 50 = eqb-true b 50 t in
      let rest = after_two bs is in
      let all : b ∷ bs ≡ 50 ∷ 48 ∷ 48 ∷ [] = cc in
      let is : Value v ≡ Value 200 = sym value ∙ ap (λ (cs : List ℕ). number_through Empty cs) all in
      cc
  go false t is = let none = opens_none bs in cc

opens_not : (o : Opening) → opens_after o 59 ≡ opening.Not
opens_not opening.Two = refl
opens_not opening.Zero = refl
opens_not opening.Zeros = refl
opens_not opening.Not = refl

number_on : (p : Parameters) (o : Opening) (b : ℕ) → 48 ≤ b → b ≤ 59 → (raw pause : Bool) → state_after (Numbered p o) b raw pause ≡ Open (Numbered (parameters_after p b) (opens_after o b))
number_on p o b low high raw pause = let on : is_final b ≡ false = grind (arith, nat_tests) in rw on refl

first_digit : (b : ℕ) → is_digit b ≡ true → (raw pause : Bool) → state_after Csi b raw pause ≡ Open (Numbered (kept_of (in_first (number_after Empty b)) b) (opens_with b))
first_digit b digit raw pause = opens ∙ ap (λ (p : Parameters). Open (Numbered p (opens_with b))) (digit_after in_first reads_first Empty 0 b digit) where
  opens : state_after Csi b raw pause ≡ Open (Numbered (parameters_after empty_parameters b) (opens_with b))
  opens =
      let linux : b == 91 ≡ false = grind (arith, nat_tests) in
      let x10 : b == 77 ≡ false = grind (arith, nat_tests) in
      let sgr : b == 60 ≡ false = grind (arith, nat_tests) in
      let private : b == 63 ≡ false = grind (arith, nat_tests) in
      rw (linux, x10, sgr, private, digit) refl

more_digits : (bs : List ℕ) (n : Number) (l : ℕ) (o : Opening) → Digits bs
    → Opens (Numbered (kept_of (in_first n) l) o) (Numbered (kept_of (in_first (number_through n bs)) (last_through l bs)) (opens_through o bs)) bs
more_digits [] n l o all = refl
more_digits (b ∷ bs) n l o all =
    let a = apart b all.0 in (
      Numbered (kept_of (in_first (number_after n b)) b) (opens_after o b),
      (λ raw pause. number_on (kept_of (in_first n) l) o b a.3 (omega (arith, a.4)) raw pause
          ∙ ap (λ (p : Parameters). Open (Numbered p (opens_after o b))) (digit_after in_first reads_first n l b all.0)),
      refl,
      more_digits bs (number_after n b) b (opens_after o b) all.1,
    )

-- the first number, which opens a paste if it is 200
first_opens : (text : List ℕ) (v d : ℕ) → Digits text → number_through Empty text ≡ Value v → last_through 0 text ≡ d
    → (o : Opening) × Opens Csi (Numbered (kept_of (in_first (Value v)) d) o) text × (o ≡ opening.Zeros → v ≡ 200)
first_opens [] v d all value last = cc
first_opens (b ∷ bs) v d all value last = (
  opens_through (opens_with b) bs,
  subst (λ (m : Number). Opens Csi (Numbered (kept_of (in_first m) d) (opens_through (opens_with b) bs)) (b ∷ bs)) value
      (subst (λ (l : ℕ). Opens Csi (Numbered (kept_of (in_first (number_through Empty (b ∷ bs))) l) (opens_through (opens_with b) bs)) (b ∷ bs)) last
      (Numbered (kept_of (in_first (number_after Empty b)) b) (opens_with b), first_digit b all.0, refl, more_digits bs (number_after Empty b) b (opens_with b) all.1)),
  λ is. opens_200 b bs v is value,
)

pub first_field : (bs : List ℕ) (n : WholeNumber) → IsNumber bs n → n.end ≡ 59 → Opens Csi (opened (kept_of (in_second n.value Empty) 59)) (take n.count bs)
first_field bs n i end =
    let first = first_opens i.text n.value n.digit i.digits i.value i.last in
    let is : take n.count bs ≡ i.text ++ 59 ∷ [] = i.is ∙ ap (λ (b : ℕ). i.text ++ b ∷ []) end in
    subst (Opens Csi (opened (kept_of (in_second n.value Empty) 59))) (sym is)
    (opens_more Csi (Numbered (kept_of (in_first (Value n.value)) n.digit) first.0) (opened (kept_of (in_second n.value Empty) 59)) i.text 59 first.1
    (λ raw pause. number_on (kept_of (in_first (Value n.value)) n.digit) first.0 59 (omega arith) (omega arith) raw pause
    ∙ ap (λ (o : Opening). Open (Numbered (kept_of (in_second n.value Empty) 59) o)) (opens_not first.0)) refl)

pub one_number : (bs : List ℕ) (n : WholeNumber) (r : Readings) → IsNumber bs n → n.value ≢ 200 → r ≡ readings_at (kept_of (in_first (Value n.value)) n.digit)
    → AreNumbers bs r n.end n.count
one_number bs n r i apart reads =
    let first = first_opens i.text n.value n.digit i.digits i.value i.last in
    record {
      within = i.within;
      text = i.text;
      is = i.is;
      parameters = kept_of (in_first (Value n.value)) n.digit;
      met = first.0;
      opens = first.1;
      apart = λ is. apart (first.2 is);
      reads = reads;
    }

-- the last one of several
pub last_number : (at : Number → Fields) → ReadsDigits at → (bs : List ℕ) (i l : ℕ) (n : WholeNumber) (r : Readings) → i ≤ length bs → Opens Csi (opened (kept_of (at Empty) l)) (take i bs)
    → IsNumber (take (length bs - i) (drop i bs)) n → r ≡ readings_at (kept_of (at (Value n.value)) n.digit) → AreNumbers bs r n.end (i + n.count)
last_number at reads bs i l n r within opens number are =
    let behind = take (length bs - i) (drop i bs) in
    let front = joined bs i n.count number.text n.end within number.within number.is in
    record {
      within = front.0;
      text = take i bs ++ number.text;
      is = front.1;
      parameters = kept_of (at (Value n.value)) n.digit;
      met = opening.Not;
      opens = opens_join (take i bs) number.text Csi (opened (kept_of (at Empty) l)) (opened (kept_of (at (Value n.value)) n.digit)) opens
          (number_open opened number_goes_on at reads behind n l number);
      apart = λ is. cc;
      reads = are;
    }

pub numbers_end : (bs : List ℕ) (r : Readings) (e n : ℕ) (raw : Bool) (m : Option Meaning) → AreNumbers bs r e n → is_final e ≡ true → m ≡ numbered_by raw e r
    → EndsFrom Csi bs raw (record { meaning = m; count = n })
numbers_end bs r e n raw m are ends means = record {
  within = are.within;
  state = Numbered are.parameters are.met;
  text = are.text;
  last = e;
  is = are.is;
  opens = are.opens;
  whole = number_whole are.parameters are.met raw e m ends are.apart (means ∙ ap (λ (r : Readings). numbered_by raw e r) are.reads);
}
