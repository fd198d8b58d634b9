-- The document of a sketch describes it.
use Rattle.std.proofs.Common.{◌≡◌, ◌≤◌, ℕ, ℤ, pos, Bool, true, false, ◌==◌, List, [], ◌∷◌, length, map, Option, Some, refl, ap, sym, ◌∙◌, arith}
use Rattle.std.proofs.lemmas.Bool.{and_parts}
use Rattle.std.proofs.lemmas.Bool.Decides.{Decides-int_eq, Decides-eqb}
use Rattle.std.specs.Prelude.{codes, IsUtf8}
use Rattle.std.specs.List.{list_all}
use Rattle.std.specs.Ordering.{int_eq}
use Rattle.toml.specs.Data.{Data, integer, Members, depth, items_depth, members_depth}
use Rattle.toml.specs.View.{items_of}
use Rattle.toml.specs.Parse.{parse_document}
use Rattle.kpn_model.specs.declared.token.Sort.{Sort}
use Rattle.kpn_model.specs.declared.token.Sort.TheVariants.{Words, Flags}
use Rattle.kpn_model.specs.texts.Version.{is_two}
use Rattle.kpn_sketch.specs.declared.sketch.TokenSketch.{TokenSketch}
use Rattle.kpn_sketch.specs.declared.sketch.TokenSketch.TheVariants.{Integer, Boolean, Word}
use Rattle.kpn_sketch.specs.declared.sketch.ProcessSketch.{ProcessSketch}
use Rattle.kpn_sketch.specs.declared.sketch.ChannelSketch.{ChannelSketch}
use Rattle.kpn_sketch.specs.declared.sketch.Sketch.{Sketch}
use Rattle.kpn_sketch.specs.Form.{each, is_known}
use Rattle.kpn_sketch.specs.Description.{Describes, sketch_of, top_keys, described_process, described_channel, described_sort, token_of}
use Rattle.toml.specs.Data.{as_integer}
use Rattle.kpn_builder.specs.Written.{token_value, sort_value, process_value, channel_value, has_no_tokens, has_said_tokens, is_said, is_describable, version_members, sketch_members}

-- ---- what is read

each_back : {A : Type 0} (form : Data → Option A) (value : A → Data) → ((x : A) → form (value x) ≡ Some x) → (xs : List A) → each form (items_of (map value xs)) ≡ Some xs
each_back form value one [] = refl
each_back form value one (x ∷ xs) = rw (one x, each_back form value one xs) refl

integers_back : (zs : List ℤ) → each as_integer (items_of (map integer zs)) ≡ Some zs
integers_back = each_back as_integer integer (λ z. refl)

-- items that pass a test are read back, if each that passes it is
each_passed_back :
    {A : Type 0} (form : Data → Option A) (value : A → Data) (test : A → Bool) → ((x : A) → test x ≡ true → form (value x) ≡ Some x) → (xs : List A) → list_all test xs ≡ true → each form (items_of (map value xs)) ≡ Some xs
each_passed_back form value test one [] passed = refl
each_passed_back form value test one (x ∷ xs) passed =
    let (here, more) = and_parts (test x) (list_all test xs) passed in
    rw (one x here, each_passed_back form value test one xs more) refl

token_back : (t : TokenSketch) → is_said t ≡ true → token_of (token_value t) ≡ Some t
token_back (Integer z) said = refl
token_back (Boolean b) said = refl
token_back (Word w) said = cc

tokens_back : (ts : List TokenSketch) → list_all is_said ts ≡ true → each token_of (items_of (map token_value ts)) ≡ Some ts
tokens_back = each_passed_back token_of token_value is_said token_back

sort_back : (s : Sort) → described_sort (sort_value s) ≡ Some s
sort_back Words = refl
sort_back Flags = refl

process_back : (p : ProcessSketch) → described_process (process_value p) ≡ Some p
process_back p = rw (integers_back p.args) refl

channel_back_two : (version : ℤ) → is_two version ≡ true → (c : ChannelSketch) → has_said_tokens c ≡ true → described_channel (record { version = version; has_delays = false }) (channel_value true c) ≡ Some c
channel_back_two version is c said = rw (is, sort_back c.sort, tokens_back c.tokens said) refl

no_items : {A : Type 0} (xs : List A) → (length xs == 0) ≡ true → [] ≡ xs
no_items [] is = refl
no_items (x ∷ xs) is = absurd (omega (arith, (Decides-eqb (length (x ∷ xs)) 0).0 is))

channel_back_other : (version : ℤ) (c : ChannelSketch) → has_no_tokens c ≡ true → described_channel (record { version = version; has_delays = false }) (channel_value false c) ≡ Some c
channel_back_other version c none = rw (sort_back c.sort) (ap (λ ts. Some (record c { tokens = ts })) (no_items c.tokens none))

channels_back_other : (version : ℤ) (cs : List ChannelSketch) → list_all has_no_tokens cs ≡ true → each (described_channel (record { version = version; has_delays = false })) (items_of (map (channel_value false) cs)) ≡ Some cs
channels_back_other version = each_passed_back (described_channel (record { version = version; has_delays = false })) (channel_value false) has_no_tokens (channel_back_other version)

one_step : (z : ℤ) → int_eq z (pos 1) ≡ true → pos 1 ≡ z
one_step z is = sym ((Decides-int_eq z (pos 1)).0 is)

has_step : (version : ℤ) → is_two version ≡ true → is_known (top_keys version) (codes "step") ≡ true
has_step version two = rw (two, is_known) refl

reads_back_two : (s : Sketch) → is_two s.version ≡ true → list_all has_said_tokens s.channels ≡ true → sketch_of (sketch_members s) ≡ Some s
reads_back_two s two said =
    let channels = each_passed_back (described_channel (record { version = s.version; has_delays = false })) (channel_value true) has_said_tokens (channel_back_two s.version two) s.channels said in
    rw (two, has_step s.version two, each_back described_process process_value process_back s.processes, channels) refl

reads_back_other : (s : Sketch) → is_two s.version ≡ false → list_all has_no_tokens s.channels ≡ true → pos 1 ≡ s.step → sketch_of (sketch_members s) ≡ Some s
reads_back_other s other none step =
    rw (other, each_back described_process process_value process_back s.processes, channels_back_other s.version s.channels none) (ap (λ z. Some (record s { step = z })) step)

reads_back_by : (s : Sketch) (two : Bool) → is_two s.version ≡ two → is_describable s ≡ true → sketch_of (sketch_members s) ≡ Some s
reads_back_by s true two is = reads_back_two s two (rw two at is)
reads_back_by s false other is =
    let (step, none) = and_parts (int_eq s.step (pos 1)) (list_all has_no_tokens s.channels) (rw other at is) in
    reads_back_other s other none (one_step s.step step)

pub reads_back : (s : Sketch) → is_describable s ≡ true → sketch_of (sketch_members s) ≡ Some s
reads_back s is = reads_back_by s (is_two s.version) refl is

-- ---- how deep it is

items_below : {A : Type 0} (value : A → Data) (n : ℕ) → ((x : A) → depth (value x) ≤ n) → (xs : List A) → items_depth (items_of (map value xs)) ≤ n
items_below value n one [] = omega arith
items_below value n one (x ∷ xs) = omega (arith, one x, items_below value n one xs)

integers_flat : (zs : List ℤ) → items_depth (items_of (map integer zs)) ≤ 0
integers_flat = items_below integer 0 (λ z. omega arith)

token_flat : (t : TokenSketch) → depth (token_value t) ≤ 0
token_flat (Integer z) = omega arith
token_flat (Boolean b) = omega arith
token_flat (Word w) = omega arith

tokens_flat : (ts : List TokenSketch) → items_depth (items_of (map token_value ts)) ≤ 0
tokens_flat = items_below token_value 0 token_flat

sort_flat : (s : Sort) → depth (sort_value s) ≤ 0
sort_flat Words = omega arith
sort_flat Flags = omega arith

process_flat : (p : ProcessSketch) → depth (process_value p) ≤ 2
process_flat p = omega (arith, integers_flat p.args)

channel_flat : (two : Bool) (c : ChannelSketch) → depth (channel_value two c) ≤ 2
channel_flat true c = omega (arith, sort_flat c.sort, tokens_flat c.tokens)
channel_flat false c = omega (arith, sort_flat c.sort)

version_flat_by : (s : Sketch) (two : Bool) → is_two s.version ≡ two → members_depth (version_members s) ≤ 0
version_flat_by s true is = rw is (omega arith)
version_flat_by s false is = rw is (omega arith)

version_flat : (s : Sketch) → members_depth (version_members s) ≤ 0
version_flat s = version_flat_by s (is_two s.version) refl

members_flat : (s : Sketch) → members_depth (sketch_members s) ≤ 3
members_flat s =
    let channels = items_below (channel_value (is_two s.version)) 2 (channel_flat (is_two s.version)) s.channels in
    let processes = items_below process_value 2 process_flat s.processes in
    omega (arith, channels, processes, version_flat s)

pub flat_enough : (s : Sketch) → members_depth (sketch_members s) ≤ 80
flat_enough s = omega (arith, members_flat s)

pub describes : (text : List ℕ) (ms : Members) (s : Sketch) → IsUtf8 text → (members_depth ms ≤ 80 → parse_document text ≡ Some ms) → ms ≡ sketch_members s → is_describable s ≡ true → Describes text s
describes text ms s utf8 reads is describable =
    let deep : members_depth ms ≤ 80 = rw is (flat_enough s) in
    let parsed : parse_document text ≡ Some (sketch_members s) = reads deep ∙ ap Some is in
    (utf8, rw parsed (reads_back s describable))
