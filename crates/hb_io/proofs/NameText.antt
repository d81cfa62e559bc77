-- A name is ASCII, and an array of zeros holds it once it is copied to the front.
use Rattle.std.proofs.Common.{◌≡◌, ℕ, ◌<◌, List, ◌++◌, length, take, drop, replicate, refl, inl, inr, arith, rules}
use Rattle.std.specs.Prelude.{IsUtf8, codes}
use Rattle.std.proofs.lemmas.Grind.{common_steps}
use Rattle.std.proofs.lemmas.List.{drop-replicate, take_at}
use Rattle.std.proofs.lemmas.List.Elements.{All-nil, All-cons, All-contains, All-weaker}
use Rattle.std.proofs.lemmas.Str.{IsUtf8-from_ascii}
use Rattle.std.proofs.lemmas.Str.Ascii.{IsAscii-from_all}
use Rattle.hb_io.specs.declared.names.TheConstants.{NAME_LIMIT}
use Rattle.hb_io.specs.NameSpelling.{IsNameByte, IsName, HoldsName}

-- a byte of a name is below 128
IsNameByte-ascii : (b : ℕ) → IsNameByte b → b < 128
IsNameByte-ascii b (inl alphanumeric) = grind arith
IsNameByte-ascii b (inr mark) =
    All-contains (λ m. m < 128) (codes "_-") b (search (rules, All-nil, All-cons)) mark

-- a name is UTF-8
pub IsName-utf8 : (text : List ℕ) → IsName text → IsUtf8 text
IsName-utf8 text name =
    IsUtf8-from_ascii text (IsAscii-from_all text (All-weaker IsNameByte (λ b. b < 128) IsNameByte-ascii text name.bytes))

-- the array holds the name that is copied over its first zeros
pub HoldsName-copied : (text : List ℕ) → IsName text → HoldsName (text ++ drop (length text) (replicate NAME_LIMIT 0)) (length text)
HoldsName-copied text name =
    let front : take (length text) (text ++ drop (length text) (replicate NAME_LIMIT 0)) ≡ text = take_at text _ (length text) refl in
    record {
      name = rw front name;
      within = grind (arith, common_steps);
      zeros = rw (front, drop-replicate {X = ℕ} (length text) NAME_LIMIT 0) refl;
    }
