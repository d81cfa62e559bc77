use Rattle.std.proofs.Common.{◌≡◌, ◌∙◌, sym, subst, true}
use Rattle.std.specs.Prelude.{All}
use Rattle.hb_words.specs.Commands.{texts_of}
use Rattle.hb_words.specs.Interface.{IsTaken}
use Rattle.hb_words.specs.PlainWords.{IsPlain}
use Rattle.hb_words.proofs.CommandWords.{borrowed_plain, each_plain, refused_asks_none, texts_plain, words_plain}
use Rattle.hb_words.proofs.PartsFound.{Found, found, is_there, weaken}
use Rattle.hb_words.proofs.parser.parts.Goals as goal

pub returns-then-not-are_plain-clause-none : goal.returns-then-not-are_plain-clause-none
returns-then-not-are_plain-clause-none c = λ command asks.
    let plain : c.are_plain.result ≡ true =
    c.are_plain.ensures.1 (borrowed_plain c.args.words.now (words_plain (texts_of c.args.words.now) command asks)) in
    cc (plain, c.if-not-are_plain.true)

pub returns-in_default-clause-none : goal.returns-in_default-clause-none
returns-in_default-clause-none c =
    let plain : All IsPlain (texts_of c.args.words.now) = texts_plain c.args.words.now (c.are_plain.ensures.0 c.if-not-are_plain.false) in
    refused_asks_none (texts_of c.args.words.now) plain (rw c.in_default.is at c.in_ok-matches.ensures.refused)

pub returns-clause-found : goal.returns-clause-found
returns-clause-found c =
    let plain : All IsPlain (texts_of c.args.words.now) = texts_plain c.args.words.now (c.are_plain.ensures.0 c.if-not-are_plain.false) in
    let taken : IsTaken (texts_of c.args.words.now) c.in-Some.matches = rw c.in-Some.is at c.in_ok-matches.ensures.taken in
    let read : Found (texts_of c.args.words.now) =
    found (texts_of c.args.words.now) (each_plain (texts_of c.args.words.now) plain) taken.passes in
    weaken c.parts_met.result _ _ (λ parts is. read.parts ∙ sym is) (c.parts_met.ensures read.name read.rows (taken.met ∙ read.met))

pub returns-clause-plain : goal.returns-clause-plain
returns-clause-plain c =
    let plain : All IsPlain (texts_of c.args.words.now) = texts_plain c.args.words.now (c.are_plain.ensures.0 c.if-not-are_plain.false) in
    let taken : IsTaken (texts_of c.args.words.now) c.in-Some.matches = rw c.in-Some.is at c.in_ok-matches.ensures.taken in
    let read : Found (texts_of c.args.words.now) =
    found (texts_of c.args.words.now) (each_plain (texts_of c.args.words.now) plain) taken.passes in
    weaken c.parts_met.result _ _ (λ parts is. subst (All IsPlain) (read.parts ∙ sym is) plain)
    (c.parts_met.ensures read.name read.rows (taken.met ∙ read.met))

pub returns-clause-none : goal.returns-clause-none
returns-clause-none c =
    let plain : All IsPlain (texts_of c.args.words.now) = texts_plain c.args.words.now (c.are_plain.ensures.0 c.if-not-are_plain.false) in
    let taken : IsTaken (texts_of c.args.words.now) c.in-Some.matches = rw c.in-Some.is at c.in_ok-matches.ensures.taken in
    let read : Found (texts_of c.args.words.now) =
    found (texts_of c.args.words.now) (each_plain (texts_of c.args.words.now) plain) taken.passes in
    is_there c.parts_met.result _ _ (c.parts_met.ensures read.name read.rows (taken.met ∙ read.met))
