mod ReadMost
