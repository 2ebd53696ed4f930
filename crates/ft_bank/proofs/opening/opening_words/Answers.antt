use Rattle.std.proofs.Common.{◌≡◌, List, ℕ, [], ◌∷◌, ◌-◌, length, ◌++◌, refl, ap, ◌∙◌, arith}
use Rattle.std.specs.Prelude.{replicate}
use Rattle.std.proofs.lemmas.List.{length-map}
use Rattle.ft_model.specs.Worlds.{start_as}
use Rattle.ft_layout.specs.Starts.{bank_size, heap_start}
use Rattle.ft_trace.specs.Addresses.{extent, free_counts, free_words, first_word, heap_from, listed}
use Rattle.ft_trace.proofs.Addresses.{far_low, heap_zero}
use Rattle.ft_bank.specs.Shapes.{plan}
use Rattle.ft_bank.proofs.StartWords.{all_heaps, front_long, heaps_from, heaps_word, in_order, size_is, with_rest}
use Rattle.ft_bank.proofs.opening.opening_words.Goals as goal

pub returns : goal.returns
returns c =
    let k = plan c.args.shape.now in
    let counts = free_counts k.tables 3 14 in
    let free = free_words k.tables 0 224 in
    let front : List ℕ = (((0 ∷ 1 ∷ []) ++ replicate 64 0) ++ counts) ++ free in
    let many = length-map c.args.shape.now.kinds.items start_as in
    let count : c.len-containers.result ≡ length k.starts = omega (arith, many, c.len-containers.ensures, c.args.shape.now.kinds.ok.0) in
    let whole : c.bank_size-size.result ≡ extent k = c.bank_size-size.ensures.is ∙ ((λ d. bank_size (record { containers = count d; heap = k.heap; passes = k.passes; tables = c.as_slice.ensures.value d })) ∙ size_is k) in
    let heaps : c.heap_start-heaps.result ≡ heap_from k 0 = c.heap_start-heaps.ensures.is ∙ ((λ d. heap_start (count d) k.heap 0) ∙ heaps_from k) in
    let start = c.in_ok-reserve.ensures.items ∙ c.in_ok-words.ensures.items in
    let a = c.in_ok-fill_up.ensures ∙ (λ d. start d ++ replicate (66 - length (start d)) 0) in
    let b = c.in_ok-push_counts.ensures ∙ (λ d. a d ++ free_counts (c.as_slice-2.ensures.value d) 3 14) in
    let f = c.in_ok-push_free.ensures ∙ (λ d. b d ++ free_words (c.as_slice-3.ensures.value d) 0 224) in
    let z = c.in_ok-fill_up-2.ensures ∙ (λ d. f d ++ replicate (heaps d - length (f d)) 0) in
    let h = c.in_ok-push_heaps.ensures ∙ (λ d. z d ++ listed (heaps_word k) 0 (all_heaps k)) in
    let all = c.in_ok-fill_up-3.ensures ∙ (λ d. h d ++ replicate (whole d - length (h d)) 0) in record {
      words = all ∙ (with_rest k front refl ∙ in_order (replicate 64 0) counts free (listed (first_word k) 304 (extent k - 304)));
      low = omega (arith, whole, c.bank_size-size.ensures.most);
    }

pub fill_up-requires : goal.fill_up-requires
fill_up-requires c =
    let two = ap length (c.in_ok-reserve.ensures.items ∙ c.in_ok-words.ensures.items) in
    omega (arith, two)

pub fill_up-requires-2 : goal.fill_up-requires-2
fill_up-requires-2 c =
    let k = plan c.args.shape.now in
    let many = length-map c.args.shape.now.kinds.items start_as in
    let count : c.len-containers.result ≡ length k.starts = omega (arith, many, c.len-containers.ensures, c.args.shape.now.kinds.ok.0) in
    let heaps : c.heap_start-heaps.result ≡ heap_from k 0 = c.heap_start-heaps.ensures.is ∙ ((λ d. heap_start (count d) k.heap 0) ∙ heaps_from k) in
    let start = c.in_ok-reserve.ensures.items ∙ c.in_ok-words.ensures.items in
    let a = c.in_ok-fill_up.ensures ∙ (λ d. start d ++ replicate (66 - length (start d)) 0) in
    let b = c.in_ok-push_counts.ensures ∙ (λ d. a d ++ free_counts (c.as_slice-2.ensures.value d) 3 14) in
    let f = ap length (c.in_ok-push_free.ensures ∙ (λ d. b d ++ free_words (c.as_slice-3.ensures.value d) 0 224)) in
    let low = heap_zero k in
    omega (arith, heaps, f, low)

pub fill_up-requires-3 : goal.fill_up-requires-3
fill_up-requires-3 c =
    let k = plan c.args.shape.now in
    let front : List ℕ = (((0 ∷ 1 ∷ []) ++ replicate 64 0) ++ free_counts k.tables 3 14) ++ free_words k.tables 0 224 in
    let many = length-map c.args.shape.now.kinds.items start_as in
    let count : c.len-containers.result ≡ length k.starts = omega (arith, many, c.len-containers.ensures, c.args.shape.now.kinds.ok.0) in
    let whole : c.bank_size-size.result ≡ extent k = c.bank_size-size.ensures.is ∙ ((λ d. bank_size (record { containers = count d; heap = k.heap; passes = k.passes; tables = c.as_slice.ensures.value d })) ∙ size_is k) in
    let heaps : c.heap_start-heaps.result ≡ heap_from k 0 = c.heap_start-heaps.ensures.is ∙ ((λ d. heap_start (count d) k.heap 0) ∙ heaps_from k) in
    let start = c.in_ok-reserve.ensures.items ∙ c.in_ok-words.ensures.items in
    let a = c.in_ok-fill_up.ensures ∙ (λ d. start d ++ replicate (66 - length (start d)) 0) in
    let b = c.in_ok-push_counts.ensures ∙ (λ d. a d ++ free_counts (c.as_slice-2.ensures.value d) 3 14) in
    let f = c.in_ok-push_free.ensures ∙ (λ d. b d ++ free_words (c.as_slice-3.ensures.value d) 0 224) in
    let z = c.in_ok-fill_up-2.ensures ∙ (λ d. f d ++ replicate (heaps d - length (f d)) 0) in
    let h = ap length (c.in_ok-push_heaps.ensures ∙ (λ d. z d ++ listed (heaps_word k) 0 (all_heaps k))) in
    let long = front_long k front refl in
    let low = far_low k in
    omega (arith, whole, h, long, low)
