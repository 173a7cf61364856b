-- A command's text on a writer, by way of a text in memory.
use Rattle.std.specs.Prelude.{◌≡◌, ℕ, List, Option, Some, None, Result, Ok, Err, IfErr, IfOk, IfSome, OnErr, OnOk}
use Rattle.std.proofs.Common.{subst}

-- A fact of these bytes is one of the command's text, if these are it.
holds_of_text : (text : Option (List ℕ)) (P : List ℕ → Type 0) (bs : List ℕ) → IfSome text (λ t. bs ≡ t) → P bs → IfSome text P
holds_of_text None P bs is p = tt
holds_of_text (Some t) P bs is p = subst P is p

pub sent_ok : {X E : Type 0} (r : Result X E) (text : Option (List ℕ)) (P : List ℕ → Type 0) (bs : List ℕ) → IfSome text (λ t. bs ≡ t) → OnOk r (P bs) → OnOk r (IfSome text P)
sent_ok (Ok x) text P bs is p = holds_of_text text P bs is p
sent_ok (Err e) text P bs is p = p

pub sent_err : {X E : Type 0} (r : Result X E) (text : Option (List ℕ)) (P : List ℕ → Type 0) (bs : List ℕ) → IfSome text (λ t. bs ≡ t) → OnErr r (P bs) → OnErr r (IfSome text P)
sent_err (Ok x) text P bs is p = p
sent_err (Err e) text P bs is p = holds_of_text text P bs is p

-- A fact that holds in any case.
pub ok_of : {X E : Type 0} {A : Type 0} (r : Result X E) → A → OnOk r A
ok_of (Ok x) a = a
ok_of (Err e) a = tt

pub err_of : {X E : Type 0} {A : Type 0} (r : Result X E) → A → OnErr r A
err_of (Ok x) a = tt
err_of (Err e) a = a

-- A fact that follows from another one in one case.
pub ok_with : {X E : Type 0} {A B : Type 0} (r : Result X E) → (A → B) → OnOk r A → OnOk r B
ok_with (Ok x) f a = f a
ok_with (Err e) f a = tt

pub err_with : {X E : Type 0} {A B : Type 0} (r : Result X E) → (A → B) → OnErr r A → OnErr r B
err_with (Ok x) f a = tt
err_with (Err e) f a = f a

-- A fact that holds at an error that came.
pub at_err : {X E : Type 0} {r : Result X E} {e : E} {P : Type 0} → r ≡ Err e → OnErr r P → P
at_err {X} {E} {r} {e} {P} is p = subst (λ r. OnErr r P) is p

-- One of the error that came.
pub at_if_err : {X E : Type 0} {r : Result X E} {e : E} (P : E → Type 0) → r ≡ Err e → IfErr r P → P e
at_if_err {X} {E} {r} {e} P is p = subst (λ r. IfErr r P) is p

-- A fact that follows of each value, and of each error.
pub if_ok_with : {X E : Type 0} {A B : X → Type 0} (r : Result X E) → ((x : X) → A x → B x) → IfOk r A → IfOk r B
if_ok_with (Ok x) f a = f x a
if_ok_with (Err e) f a = tt

pub if_err_with : {X E : Type 0} {A B : E → Type 0} (r : Result X E) → ((e : E) → A e → B e) → IfErr r A → IfErr r B
if_err_with (Ok x) f a = tt
if_err_with (Err e) f a = f e a

-- What holds of every error holds of the one that there is, if there is one.
pub if_err_any : {X E : Type 0} {P : E → Type 0} (r : Result X E) → ((e : E) → P e) → IfErr r P
if_err_any (Ok x) all = tt
if_err_any (Err e) all = all e
