use Rattle.std.proofs.Common.{◌<◌, length}
use Rattle.std.proofs.lemmas.List.{length-map}
use Rattle.spf_lex.proofs.Spans.{span_at, slice_get_read}
use Rattle.spf_lex.proofs.token_list.Tokens.span.Goals as goal

pub returns : goal.returns
returns c =
    let inside : c.args.n < length c.self.inside.spans.items = rw length-map at (rw (← c.self.view_is) at c.requires) in
    let span = span_at c.self.inside.spans.items _ _ c.self.invariant.tokenized.tokens inside c.index.ensures in
    rw (← c.self.view_is) (record {
      span = slice_get_read _ _ _ inside c.index.ensures;
      ordered = span.ordered;
      within = span.within;
      short = c.self.invariant.tokenized.short;
      token = span.lexeme;
    })
