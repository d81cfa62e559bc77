-- What holds of a result that is a value, or an error?
use Rattle.std.specs.Prelude.{Result, Ok, Err, IfErr, IfOk, OnErr, OnOk}

-- what follows at each value
pub on_ok : {A E X Y : Type 0} (r : Result A E) → (X → Y) → OnOk r X → OnOk r Y
on_ok (Ok a) go x = go x
on_ok (Err e) go x = tt

-- what follows at each value of which something is so
pub if_ok : {A E : Type 0} {P Q : A → Type 0} (r : Result A E) → IfOk r P → ((a : A) → P a → Q a) → IfOk r Q
if_ok (Ok a) p go = go a p
if_ok (Err e) p go = tt

-- what follows at each value from two facts
pub if_ok_both : {A E X : Type 0} {P Q : A → Type 0} (r : Result A E) → OnOk r X → IfOk r P → ((a : A) → X → P a → Q a) → IfOk r Q
if_ok_both (Ok a) x p go = go a x p
if_ok_both (Err e) x p go = tt

-- what follows at each error
pub if_err : {A E : Type 0} {P Q : E → Type 0} (r : Result A E) → ((e : E) → P e → Q e) → IfErr r P → IfErr r Q
if_err (Ok a) go p = tt
if_err (Err e) go p = go e p

-- what follows at each error from three facts
pub if_err_all : {A E X Z : Type 0} {P Q : E → Type 0} (r : Result A E) → OnErr r X → IfErr r P → OnErr r Z
    → ((e : E) → X → P e → Z → Q e) → IfErr r Q
if_err_all (Ok a) x p z go = tt
if_err_all (Err e) x p z go = go e x p z

-- what follows at each error from a fact that is so at each
pub on_err : {A E X Y : Type 0} (r : Result A E) → (X → Y) → OnErr r X → OnErr r Y
on_err (Ok a) go x = tt
on_err (Err e) go x = go x
