use Rattle.std.proofs.Common.{lit<, rules}
use Rattle.std.proofs.lemmas.Str.Pattern.{split_once_first}
use Rattle.hb_request.proofs.WordOf.{word_of-split}
use Rattle.hb_request.proofs.parsing.split.Goals as goal

pub returns-in-Some-clause-word : goal.returns-in-Some-clause-word
returns-in-Some-clause-word c =
    let first = split_once_first 32 c.args.text.now c.split_once.result c.split_once.ensures.cases (lit< tt) in
    let h = word_of-split c.args.text.now c.split_once.result first in
    search rules

pub returns-in-Some-clause-rest : goal.returns-in-Some-clause-rest
returns-in-Some-clause-rest c =
    let first = split_once_first 32 c.args.text.now c.split_once.result c.split_once.ensures.cases (lit< tt) in
    let h = word_of-split c.args.text.now c.split_once.result first in
    search rules

pub returns-in-None-clause-word : goal.returns-in-None-clause-word
returns-in-None-clause-word c =
    let first = split_once_first 32 c.args.text.now c.split_once.result c.split_once.ensures.cases (lit< tt) in
    let h = word_of-split c.args.text.now c.split_once.result first in
    search rules

pub returns-in-None-clause-rest : goal.returns-in-None-clause-rest
returns-in-None-clause-rest c =
    let first = split_once_first 32 c.args.text.now c.split_once.result c.split_once.ensures.cases (lit< tt) in
    let h = word_of-split c.args.text.now c.split_once.result first in
    search rules
