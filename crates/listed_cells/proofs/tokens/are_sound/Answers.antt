use Rattle.std.proofs.Common.{option_to_list, sym, true≢false, ◌∙◌}
use Rattle.std.proofs.lemmas.Result.{IfOk-weaker}
use Rattle.store_laws.specs.View.{look}
use Rattle.listed_cells.specs.Listing.{content_of}
use Rattle.listed_cells.proofs.TokenSets.{sound_if_once, unsound_queue, unsound_mark}
use Rattle.listed_cells.proofs.tokens.are_sound.Goals as goal

pub returns-then-not-are_named : goal.returns-then-not-are_named
returns-then-not-are_named c = (
  λ e. absurd (true≢false (sym e)),
  λ s. absurd (unsound_queue (look (content_of c.args.cells.now)) c.args.key.now c.args.queue.now (option_to_list c.args.mark) (λ all. true≢false (sym (c.are_named.ensures.1 all) ∙ c.if-not-are_named.true)) s),
)

pub returns-then-not-is_mark_named : goal.returns-then-not-is_mark_named
returns-then-not-is_mark_named c = (
  λ e. absurd (true≢false (sym e)),
  λ s. absurd (unsound_mark (look (content_of c.args.cells.now)) c.args.key.now c.args.queue.now (option_to_list c.args.mark) (λ all. true≢false (sym (c.is_mark_named.ensures.1 all) ∙ c.if-not-is_mark_named.true)) s),
)

pub returns : goal.returns
returns c =
    IfOk-weaker c.stand_once.result _ _
    (λ once exact. sound_if_once (look (content_of c.args.cells.now)) c.args.key.now c.args.queue.now (option_to_list c.args.mark) once
    (c.are_named.ensures.0 c.if-not-are_named.false) (c.is_mark_named.ensures.0 c.if-not-is_mark_named.false) exact)
    c.stand_once.ensures
