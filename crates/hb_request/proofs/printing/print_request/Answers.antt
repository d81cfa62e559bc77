use Rattle.serde_json.specs.View.{view}
use Rattle.std.specs.Prelude.{string_bytes}
use Rattle.hb_request.proofs.PlainRequest.{IsPlain-request_data}
use Rattle.hb_request.proofs.RequestText.{parsed-request_text}
use Rattle.hb_request.proofs.printing.print_request.Goals as goal

pub line_text-requires : goal.line_text-requires
line_text-requires c = rw c.in_ok-value.ensures ((IsPlain-request_data c.args.request.now).exact)

pub returns-clause-asks : goal.returns-clause-asks
returns-clause-asks c =
    parsed-request_text c.args.request.now c.of_request.result c.word.result.now (view c.in_ok-value.value)
    (string_bytes c.in_ok-text.text) c.from_string.result
    c.of_request.ensures c.word.ensures c.in_ok-value.ensures c.in_ok-text.ensures.text
    c.in_ok-text.ensures.reads_back c.from_string.ensures
