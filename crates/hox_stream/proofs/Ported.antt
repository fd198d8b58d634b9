-- What is taken from sources and written to sinks, one after another.
use Rattle.std.proofs.Common.{◌≡◌, ◌+◌, ◌++◌, ◌||◌, ℕ, Bool, true, false, not, List, [], length, length-drop, drop, Option, refl, sym, ◌∙◌, subst, arith}
use Rattle.std.proofs.KnownBytes.{Appends-nil, Appends-trans}
use Rattle.std.proofs.lemmas.List.Concat.{flat_map-append}
use Rattle.std.specs.Io.Iter.{u64_saturate}
use Rattle.std.specs.Io.KnownBytes.{Appends, IsAtEnd}
use Rattle.std.specs.List.{flat_map}
use Rattle.kpn_model.specs.declared.token.Token.{Token}
use Rattle.kpn_model.specs.declared.token.Sort.{Sort}
use Rattle.kpn_tokens.specs.declared.layouts.Layout.{Layout}
use Rattle.kpn_tokens.specs.Records.{listed, record_text}
use Rattle.hox_stream.specs.declared.cutting.FirstRecord.TheVariants.{Record}
use Rattle.hox_stream.specs.Cutting.{IsFirstRecord, Passes}
use Rattle.hox_stream.specs.Ports.{CountsOn, ReadsOn, Takes, Writes, are_written, clipped_of, written_of}
use Rattle.hox_stream.specs.Views.{InletView, OutletView, unread}
use Rattle.hox_stream.proofs.Counted.{counts_as, counts_both, counts_lists, counts_none}
use Rattle.hox_stream.proofs.Fitting.{clipped_both, clipped_none, misfit_both, misfit_none, written_both, written_none}
use Rattle.hox_stream.proofs.Pieces.{passes_both, passes_none, passes_read, passes_record}

pub takes_none : (p : InletView) → Takes p p []
takes_none p = record { channel = refl; layout = refl; sort = refl; counted = counts_none p.tokens p.tokens refl; records = 0; counted_records = counts_none p.records p.records refl; passes = passes_none p.layout p.sort (unread p); held = λ h. h }

pub takes_both : (p q r : InletView) (ts us : List Token) → Takes p q ts → Takes q r us → Takes p r (ts ++ us)
takes_both p q r ts us x y = record {
  channel = y.channel ∙ x.channel;
  layout = y.layout ∙ x.layout;
  sort = y.sort ∙ x.sort;
  counted = counts_lists p.tokens q.tokens r.tokens ts us x.counted y.counted;
  records = x.records + y.records;
  counted_records = counts_both p.records q.records r.records x.records y.records x.counted_records y.counted_records;
  passes = passes_both p.layout p.sort (unread p) (unread q) (unread r) ts us x.records y.records x.passes
      (subst (λ (l : Layout). Passes l p.sort (unread q) (unread r) us y.records) x.layout (subst (λ (s : Sort). Passes q.layout s (unread q) (unread r) us y.records) x.sort y.passes));
  held = λ h. y.held (x.held h);
}

-- a view of a source of which the next record was taken
abbrev pub passed : InletView → ℕ → Option Token → InletView
passed p used said = record p { kept = drop used p.kept; records = u64_saturate (p.records + 1); tokens = u64_saturate (p.tokens + length (listed said)) }

takes_passed : (p : InletView) (used : ℕ) (said : Option Token) → IsFirstRecord p.layout p.sort p.kept p.is_over (Record said used) → (p.is_over ≡ true → IsAtEnd p.remaining) → Takes p (passed p used said) (listed said)
takes_passed p used said next end = record {
  channel = refl;
  layout = refl;
  sort = refl;
  counted = counts_as p.tokens (u64_saturate (p.tokens + length (listed said))) (length (listed said)) refl;
  records = 1;
  counted_records = counts_as p.records (u64_saturate (p.records + 1)) 1 refl;
  passes = passes_record p.layout p.sort p.kept p.remaining p.is_over said used next end;
  held = λ h. omega (arith, length-drop used p.kept);
}

pub takes_record : (p q : InletView) (used : ℕ) (said : Option Token) → IsFirstRecord p.layout p.sort p.kept p.is_over (Record said used) → (p.is_over ≡ true → IsAtEnd p.remaining) → q ≡ passed p used said → Takes p q (listed said)
takes_record p q used said next end e = subst (λ (r : InletView). Takes p r (listed said)) (sym e) (takes_passed p used said next end)

pub takes_read : (p q : InletView) → ReadsOn p q → Takes p q []
takes_read p q r = record {
  channel = r.channel;
  layout = r.layout;
  sort = r.sort;
  counted = counts_none p.tokens q.tokens r.tokens;
  records = 0;
  counted_records = counts_none p.records q.records r.records;
  passes = subst (λ (l : List ℕ). Passes p.layout p.sort (unread p) (unread (record q { kept = l })) [] 0) (sym r.kept) (passes_read p.layout p.sort p.kept r.bytes p.remaining q.remaining r.consumed);
  held = λ h. r.held;
}

pub writes_none : (p : OutletView) → Writes p p []
writes_none p = record {
  channel = refl;
  layout = refl;
  unfailed = λ e. e;
  written = λ e. subst (λ (l : List Token). Appends p.contents p.contents (flat_map (record_text p.layout) l)) (sym (written_none p.layout p.is_misfit)) (Appends-nil p.contents);
  misfit = λ e. misfit_none p.layout p.is_misfit;
  counted = λ e. subst (λ (l : List Token). CountsOn p.tokens p.tokens (length l)) (sym (written_none p.layout p.is_misfit)) (counts_none p.tokens p.tokens refl);
  clipped = λ e. subst (λ n. CountsOn p.clipped p.clipped n) (sym (clipped_none p.layout p.is_misfit)) (counts_none p.clipped p.clipped refl);
  held = λ h. h;
}

module _ (p q r : OutletView) (ts us : List Token) (x : Writes p q ts) (y : Writes q r us) where
  -- whether a token did not fit, of the first ones
  abbrev after : Bool
  after = p.is_misfit || not (are_written p.layout ts)

  -- what holds of the layout and the misfits in between holds of those before
  between : (P : Layout → Bool → Type 0) → r.has_failed ≡ false → P q.layout q.is_misfit → P p.layout after
  between P e h = subst (λ (l : Layout). P l after) x.layout (subst (λ b. P q.layout b) (x.misfit (y.unfailed e)) h)

  pub writes_both : Writes p r (ts ++ us)
  writes_both = record {
    channel = y.channel ∙ x.channel;
    layout = y.layout ∙ x.layout;
    unfailed = λ e. x.unfailed (y.unfailed e);
    written = λ e.
        subst (λ (l : List Token). Appends p.contents r.contents (flat_map (record_text p.layout) l)) (sym (written_both p.layout p.is_misfit ts us))
        (subst (λ (l : List ℕ). Appends p.contents r.contents l) (sym (flat_map-append (record_text p.layout) (written_of p.layout p.is_misfit ts) (written_of p.layout after us)))
        (Appends-trans p.contents q.contents r.contents (flat_map (record_text p.layout) (written_of p.layout p.is_misfit ts)) (flat_map (record_text p.layout) (written_of p.layout after us)) (x.written (y.unfailed e))
        (between (λ l b. Appends q.contents r.contents (flat_map (record_text l) (written_of l b us))) e (y.written e))));
    misfit = λ e. between (λ l b. r.is_misfit ≡ (b || not (are_written l us))) e (y.misfit e) ∙ misfit_both p.layout p.is_misfit ts us;
    counted = λ e.
        subst (λ (l : List Token). CountsOn p.tokens r.tokens (length l)) (sym (written_both p.layout p.is_misfit ts us))
        (counts_lists p.tokens q.tokens r.tokens (written_of p.layout p.is_misfit ts) (written_of p.layout after us) (x.counted (y.unfailed e))
        (between (λ l b. CountsOn q.tokens r.tokens (length (written_of l b us))) e (y.counted e)));
    clipped = λ e.
        subst (λ n. CountsOn p.clipped r.clipped n) (sym (clipped_both p.layout p.is_misfit ts us))
        (counts_both p.clipped q.clipped r.clipped (clipped_of p.layout p.is_misfit ts) (clipped_of p.layout after us) (x.clipped (y.unfailed e))
        (between (λ l b. CountsOn q.clipped r.clipped (clipped_of l b us)) e (y.clipped e)));
    held = λ h. y.held (x.held h);
  }
