-- What a mirror shows.
use Rattle.std.proofs.Common.{◌≡◌, ℕ, List, [], ◌∷◌, ◌++◌, false, refl, ap, sym, ◌∙◌}
use Rattle.sv_tokens.specs.Token.{Token, Open, Text, Anchor, Close, Page}
use Rattle.sv_tokens.specs.Seen.{View, seen, view_of}
use Rattle.sv_tokens.specs.Replay.{replay}
use Rattle.sv_tokens.specs.declared.change.Change.{Change}
use Rattle.sv_tokens.proofs.Replay.{replay_all-append}
use Rattle.sv_html.specs.Html.{html, token_html}
use Rattle.sv_watch.specs.Mirror.{blank, mirrored, page_html}

-- the text of what is seen of a page is the page's text
page_html-seen : (ts : List Token) → page_html (seen ts) ≡ html false ts
page_html-seen [] = refl
page_html-seen (Open node parent number element ∷ ts) = ap (λ z. token_html false (Open node parent number element) ++ z) (page_html-seen ts)
page_html-seen (Text node parent number bytes ∷ ts) = ap (λ z. token_html false (Text node parent number bytes) ++ z) (page_html-seen ts)
page_html-seen (Anchor key parent ∷ ts) = page_html-seen ts
page_html-seen (Close node name ∷ ts) = ap (λ z. token_html false (Close node name) ++ z) (page_html-seen ts)

-- so it is where a page is seen so
pub page-text : (text : List ℕ) (v : View) (page : Page) → text ≡ page_html v.tokens → view_of page ≡ v → text ≡ html false page.tokens
page-text text v page is same = is ∙ (ap (λ v. page_html v.tokens) (sym same) ∙ page_html-seen page.tokens)

-- so a mirror reports the text of each page that is seen as its changes say
pub mirror-page : (text : List ℕ) (cs : List Change) (page : Page) → text ≡ page_html (mirrored cs).tokens → view_of page ≡ mirrored cs → text ≡ html false page.tokens
mirror-page text cs page is same = page-text text (mirrored cs) page is same

-- one more change
pub mirrored-more : (v w : View) (cs : List Change) (c copy : Change) → v ≡ mirrored cs → w ≡ replay c v → copy ≡ c → w ≡ mirrored (cs ++ copy ∷ [])
mirrored-more v w cs c copy was is same =
    is ∙ (ap (replay c) was ∙ (ap (λ z. replay z (mirrored cs)) (sym same) ∙ sym (replay_all-append cs (copy ∷ []) blank)))
