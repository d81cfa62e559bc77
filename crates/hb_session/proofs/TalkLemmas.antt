-- What was exchanged on a link, answer by answer and text by text?
use Rattle.std.proofs.Common.{◌≡◌, ℕ, true, false, true≢false, List, [], ◌∷◌, ◌++◌, Option, Some, None, Ok, Err, refl, ap, sym, ◌∙◌, append_assoc, append-nil}
use mathlib.Core.List.{IsPrefix}
use Rattle.hb_io.specs.declared.got.Got.{Got}
use Rattle.hb_io.specs.declared.got.Got.TheVariants as got
use Rattle.hb_edge.specs.declared.link.LinkError.{LinkError}
use Rattle.hb_edge.specs.Talk.{Talk, after_recv, after_send}
use Rattle.hb_edge.specs.Telling.{Tells}
use Rattle.hb_session.specs.Ends.{Exchanged, IfTold, has_closed, is_closed}
use Rattle.hb_session.specs.Talking.{SendsSome, with_texts}

-- lists

-- a list begins with itself
pub prefix-whole : {A : Type 0} (xs : List A) → IsPrefix xs xs
prefix-whole xs = ([], append-nil xs)

-- what a list begins with it begins with behind another list, too
pub prefix-behind : {A : Type 0} (xs ys zs : List A) → IsPrefix ys zs → IsPrefix (xs ++ ys) (xs ++ zs)
prefix-behind xs ys zs p = (p.0, append_assoc xs ys p.0 ∙ ap (λ l. xs ++ l) p.1)

-- one answer more leaves a link open if it does not close it
pub has_closed-append_one : (gots : List Got) (g : Got) → has_closed gots ≡ false → is_closed g ≡ false
    → has_closed (gots ++ g ∷ []) ≡ false
has_closed-append_one [] g is_open is = rw is refl
has_closed-append_one (got.Text text ∷ gots) g is_open is = has_closed-append_one gots g is_open is
has_closed-append_one (got.Idle ∷ gots) g is_open is = has_closed-append_one gots g is_open is
has_closed-append_one (got.Closed ∷ gots) g is_open is = absurd (true≢false is_open)

-- a link that said that it is closed has said so
pub has_closed-last : (front : List Got) → has_closed (front ++ got.Closed ∷ []) ≡ true
has_closed-last [] = refl
has_closed-last (got.Text text ∷ front) = has_closed-last front
has_closed-last (got.Idle ∷ front) = has_closed-last front
has_closed-last (got.Closed ∷ front) = refl

-- what is told

-- before anything is exchanged
pub told-none : (told : Option Talk) → IfTold told told (Exchanged [] [])
told-none None = tt
told-none (Some x) = record { gave = sym (append-nil x.gave); sent = sym (append-nil x.sent) }

-- behind a receive that was refused
pub told-refused : (told now after : Option Talk) (holds : Talk → Talk → Type 0) (e : LinkError) → IfTold told now holds
    → Tells now after (after_recv (Err e)) → IfTold told after holds
told-refused told now None holds e is same = tt
told-refused told None (Some z) holds e is same = absurd same
told-refused None (Some y) (Some z) holds e is same = absurd is
told-refused (Some x) (Some y) (Some z) holds e is same = rw same is

-- behind one answer more
pub told-received : (told now after : Option Talk) (gots : List Got) (texts : List (List ℕ)) (g : Got)
    → IfTold told now (Exchanged gots texts) → Tells now after (after_recv (Ok g))
    → IfTold told after (Exchanged (gots ++ g ∷ []) texts)
told-received told now None gots texts g is more = tt
told-received told None (Some z) gots texts g is more = absurd more
told-received None (Some y) (Some z) gots texts g is more = absurd is
told-received (Some x) (Some y) (Some z) gots texts g is more = record {
  gave = ap (λ (talk : Talk). talk.gave) more ∙ (ap (λ l. l ++ g ∷ []) is.gave ∙ append_assoc x.gave gots (g ∷ []));
  sent = ap (λ (talk : Talk). talk.sent) more ∙ is.sent;
}

-- behind these texts
pub told-sent : (told now after : Option Talk) (gots : List Got) (texts more : List (List ℕ))
    → IfTold told now (Exchanged gots texts) → Tells now after (with_texts more)
    → IfTold told after (Exchanged gots (texts ++ more))
told-sent told now None gots texts more is sent = tt
told-sent told None (Some z) gots texts more is sent = absurd sent
told-sent None (Some y) (Some z) gots texts more is sent = absurd is
told-sent (Some x) (Some y) (Some z) gots texts more is sent = record {
  gave = ap (λ (talk : Talk). talk.gave) sent ∙ is.gave;
  sent = ap (λ (talk : Talk). talk.sent) sent ∙ (ap (λ l. l ++ more) is.sent ∙ append_assoc x.sent texts more);
}

-- what is told is told of anything that follows from it
pub told-weaker : (told now : Option Talk) (holds also : Talk → Talk → Type 0) → ((x y : Talk) → holds x y → also x y)
    → IfTold told now holds → IfTold told now also
told-weaker told None holds also then is = tt
told-weaker None (Some y) holds also then is = absurd is
told-weaker (Some x) (Some y) holds also then is = then x y is

-- texts that were sent

-- no text was sent yet
pub sends-none : (told : Option Talk) → Tells told told (with_texts [])
sends-none None = tt
sends-none (Some x) = ap (λ l. record x { sent = l }) (sym (append-nil x.sent))

-- one text more was sent
pub sends-more : (told now after : Option Talk) (texts : List (List ℕ)) (text : List ℕ) → Tells told now (with_texts texts)
    → Tells now after (after_send text (Ok tt)) → Tells told after (with_texts (texts ++ text ∷ []))
sends-more told now None texts text is sent = tt
sends-more told None (Some z) texts text is sent = absurd sent
sends-more None (Some y) (Some z) texts text is sent = absurd is
sends-more (Some x) (Some y) (Some z) texts text is sent =
    sent ∙ (ap (λ (talk : Talk). record talk { sent = talk.sent ++ text ∷ [] }) is
    ∙ ap (λ l. record x { sent = l }) (append_assoc x.sent texts (text ∷ [])))

-- the next text was refused
pub sends-cut : (told now after : Option Talk) (texts part rest : List (List ℕ)) (text : List ℕ) (e : LinkError)
    → part ++ rest ≡ texts → Tells told now (with_texts part) → Tells now after (after_send text (Err e))
    → SendsSome texts told after
sends-cut told now after texts part rest text e first is same =
    record { part = part; first = (rest, first); told = kept told now after is same }
  where
    kept : (told now after : Option Talk) → Tells told now (with_texts part) → Tells now after (after_send text (Err e))
        → Tells told after (with_texts part)
    kept told now None is same = tt
    kept told None (Some z) is same = absurd same
    kept None (Some y) (Some z) is same = absurd is
    kept (Some x) (Some y) (Some z) is same = same ∙ is
